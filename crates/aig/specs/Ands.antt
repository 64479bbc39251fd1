-- The AND of two nets: both are replaced by their survivors, the smaller comes first, and the first line that fits is
-- the answer.
use Rattle.std.specs.Prelude.{◌≡◌, ℕ, zero, suc, ◌+◌, ◌*◌, ◌/◌, ◌<◌, ◌≤◌, min, max, Bool, cond, ◌&&◌, List, [], ◌∷◌, ◌++◌, length, Some, None, Option, ◌==◌, nat_lt}
use Rattle.aig.specs.declared.vertex.Vertex.{Vertex}
use Rattle.aig.specs.Nets.{inverse}
use Rattle.aig.specs.Table.{left_of, right_of, link_of, survivor_of, vertex}
use Rattle.aig.specs.Values.{value, vertex_value}

-- a net, and the table that has it
pub record Made : Type 0 where
  pub net : ℕ
  pub table : List Vertex

-- whether the vertex `v` is a standing AND-vertex with the pair `a`, `b`
abbrev pub has_pair : ℕ → List Vertex → ℕ → ℕ → ℕ → Bool
has_pair n t a b v = nat_lt n v && (link_of t v == 2 * v && (left_of t v == a && right_of t v == b))

-- such a vertex among the first `m`
abbrev pub found : ℕ → List Vertex → ℕ → ℕ → ℕ → Option ℕ
found n t a b zero = None
found n t a b (suc m) = cond (has_pair n t a b m) (Some m) (found n t a b m)

-- the net of the vertex that was found, or of a new vertex in the next place
abbrev pub found_or_fresh : List Vertex → ℕ → ℕ → Option ℕ → Made
found_or_fresh t a b (Some v) = record { net = 2 * v; table = t }
found_or_fresh t a b None = record { net = 2 * length t; table = t ++ vertex a b (2 * length t) ∷ [] }

-- the lines in turn, for a pair with the smaller net first
abbrev pub first_line : ℕ → List Vertex → ℕ → ℕ → Made
first_line n t a b =
    cond (a == 0) (record { net = 0; table = t })
    (cond (a == 1) (record { net = b; table = t })
    (cond (a == b) (record { net = a; table = t })
    (cond (b == inverse a) (record { net = 0; table = t })
    (found_or_fresh t a b (found n t a b (length t))))))

unfoldable pub and_of : ℕ → List Vertex → ℕ → ℕ → Made
and_of n t x y = first_line n t (min (survivor_of t x) (survivor_of t y)) (max (survivor_of t x) (survivor_of t y))

-- no net in use changes its value from one table to the next, which has all of its vertices
pub record Extends (n : ℕ) (t t' : List Vertex) : Type 0 where
  pub longer : length t ≤ length t'
  pub same : (code v : ℕ) → v < length t → vertex_value n t' code v ≡ vertex_value n t code v

-- the AND of the nets `x` and `y` is the net and the table that the lines say; it has the AND's value under every code
pub record Anded (n : ℕ) (t : List Vertex) (x y net : ℕ) (t' : List Vertex) : Type 0 where
  pub lines : and_of n t x y ≡ record { net = net; table = t' }
  pub within : net / 2 < length t'
  pub one_more : length t' ≤ length t + 1
  pub extends : Extends n t t'
  pub is_and : (code : ℕ) → value n t' net code ≡ (value n t x code && value n t y code)
