-- Loops that fill the words of workspace, vertex by vertex, however a value is read from a word: as the whole word, or as
-- one bit of it.
use Rattle.std.proofs.Common.{◌≡◌, ℕ, ◌+◌, ◌/◌, ◌%◌, ◌<◌, Bool, true, false, not, eqb, List, length, get_or, set, sym, refl, ap, ◌∙◌, arith, get_or-set_other, get_or-set_same, below_more}
use mir.Val.{bool_byte}
use Rattle.aig.specs.declared.vertex.Vertex.{Vertex}
use Rattle.aig.specs.Nets.{flip, net_value}
use Rattle.aig.specs.Table.{left_of, right_of}
use Rattle.aig.specs.Values.{value_by, vertex_value, value}
use Rattle.aig.specs.Invariant.{ReadsEarlier}
use Rattle.aig.proofs.Valued.{by_same, value_obeys}

pub byte_held : (b : Bool) → eqb (bool_byte b) 1 ≡ b
byte_held true = refl
byte_held false = refl

-- the value of a net, where `ρ` has that of its vertex
pub net_filled : (n : ℕ) (t : List Vertex) (code : ℕ) (ρ : ℕ → Bool) (x : ℕ) → ρ (x / 2) ≡ vertex_value n t code (x / 2) → net_value ρ x ≡ value n t x code
unfolding value
net_filled n t code ρ x e = ap (flip not (x % 2)) e

-- `read` takes the value from a word
module _ (n : ℕ) (t : List Vertex) (early : ReadsEarlier n t) (code : ℕ) (read : ℕ → Bool) where
  next_value : (ρ : ℕ → Bool) (v : ℕ) → v < length t → ((k : ℕ) → k < v → ρ k ≡ vertex_value n t code k)
      → value_by n t code ρ v ≡ vertex_value n t code v
  next_value ρ v h f =
      by_same n t code ρ (vertex_value n t code) v
      (λ gt. (let e = early v (record { after = gt; inside = h }) in (f (left_of t v / 2) e.0, f (right_of t v / 2) e.1)))
      ∙ sym (value_obeys n t early code v h)

  -- one more word
  pub filled_more : (ws : List ℕ) (v w : ℕ) → v < length t → v < length ws → read w ≡ value_by n t code (λ k. read (get_or ws k 0)) v
      → ((k : ℕ) → k < v → read (get_or ws k 0) ≡ vertex_value n t code k)
      → (k : ℕ) → k < v + 1 → read (get_or (set ws v w) k 0) ≡ vertex_value n t code k
  filled_more ws v w h l e f = below_more (λ k. read (get_or (set ws v w) k 0) ≡ vertex_value n t code k) v
      (λ k i. ap read (get_or-set_other ws v k w 0 (λ p. omega arith)) ∙ f k i)
      (ap read (get_or-set_same ws v w 0 l) ∙ e ∙ next_value (λ k. read (get_or ws k 0)) v h f)
