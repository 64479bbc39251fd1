-- The parts of a function: what it is where the inputs before one of them are fixed.
use Rattle.std.specs.Prelude.{◌≡◌, ℕ, ◌+◌, ◌*◌, ◌<◌, ◌≤◌, Bool, cond, ◌&&◌, List, length, nat_lt}
use Rattle.bdd.specs.declared.store.nodes.Node.{Node}
use Rattle.bdd.specs.Diagram.{node_at, eval, turned}

-- ρ, with the inputs below w as in σ
abbrev pub fixed : (ℕ → Bool) → ℕ → (ℕ → Bool) → ℕ → Bool
fixed σ w ρ u = cond (nat_lt u w) (σ u) (ρ u)

-- the node i is, or is the opposite of, what φ is where the inputs before the node's are fixed in some way
pub record PartOf (ms : List Node) (φ : (ℕ → Bool) → Bool) (i : ℕ) : Type 0 where
  pub at : ℕ → Bool
  pub turn : Bool
  pub value_is : (ρ : ℕ → Bool) → eval ms ρ (2 * (i + 1)) ≡ turned turn (φ (fixed at (node_at ms i).var ρ))

-- the nodes from a on look at no input before w, and are parts of φ
pub record News (a w : ℕ) (φ : (ℕ → Bool) → Bool) (ms : List Node) : Type 0 where
  pub later : (i : ℕ) → a ≤ i → i < length ms → w ≤ (node_at ms i).var
  pub part : (i : ℕ) → a ≤ i → i < length ms → PartOf ms φ i

abbrev pub conj : List Node → ℕ → ℕ → (ℕ → Bool) → Bool
conj ns f g ρ = eval ns ρ f && eval ns ρ g
