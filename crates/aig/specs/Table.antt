-- The table of vertices, and which of them stand. A vertex is named by its place; vertex 0 is the constant false, and
-- after the inputs each vertex is the AND of two nets.
use Rattle.std.specs.Prelude.{◌≡◌, ℕ, zero, suc, ◌+◌, ◌*◌, ◌/◌, cond, List, [], ◌∷◌, ◌++◌, ◌==◌, slice_index_or}
use Rattle.aig.specs.declared.net.Net.{Net}
use Rattle.aig.specs.declared.vertex.Vertex.{Vertex}
use Rattle.aig.specs.Nets.{carried}

abbrev pub net : ℕ → Net
net x = record { 0 = x }

abbrev pub vertex : ℕ → ℕ → ℕ → Vertex
vertex a b l = record { left = net a; right = net b; link = net l }

abbrev pub none : Vertex
none = vertex 0 0 0

-- `m` vertices without operands, each its own survivor
abbrev pub row : ℕ → List Vertex
row zero = []
row (suc v) = row v ++ vertex 0 0 (2 * v) ∷ []

-- the table of the constant and `n` inputs
abbrev pub opening : ℕ → List Vertex
opening n = row (suc n)

-- the two operands of a vertex, and the net that stands for it
abbrev pub left_of : List Vertex → ℕ → ℕ
left_of t v = (slice_index_or t v none).left.0

abbrev pub right_of : List Vertex → ℕ → ℕ
right_of t v = (slice_index_or t v none).right.0

abbrev pub link_of : List Vertex → ℕ → ℕ
link_of t v = (slice_index_or t v none).link.0

-- the net that stands for the net `x`
abbrev pub survivor_of : List Vertex → ℕ → ℕ
survivor_of t x = carried (link_of t (x / 2)) x

-- a vertex that is its own survivor
abbrev pub Stands : List Vertex → ℕ → Type 0
Stands t v = link_of t v ≡ 2 * v

-- how many of the first `m` vertices stand
abbrev pub standing : List Vertex → ℕ → ℕ
standing t zero = 0
standing t (suc m) = standing t m + cond (link_of t m == 2 * m) 1 0
