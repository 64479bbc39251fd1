-- The earliest code of a list that separates two functions, by its index.
use Rattle.std.specs.Prelude.{◌≡◌, ℕ, ◌<◌, Bool, List, length, position, Some, None, Option, slice_index}
use Rattle.gates.specs.Kinds.{differ}

-- the index of the first code of the list at which `f` and `g` differ
abbrev pub earliest : List ℕ → (ℕ → Bool) → (ℕ → Bool) → Option ℕ
earliest codes f g = position (λ c. differ (f c) (g c)) codes

-- code `k` of the list separates `f` and `g`, and no earlier one does
pub record FirstApart (codes : List ℕ) (f g : ℕ → Bool) (k : ℕ) : Type 0 where
  pub inside : k < length codes
  pub apart : f (slice_index codes k) ≡ g (slice_index codes k) → ⊥
  pub before : (j : ℕ) → j < k → f (slice_index codes j) ≡ g (slice_index codes j)

-- the law: `Some k` says that code `k` separates and no earlier one does, and `None` that no code of the list does
abbrev pub Tells : List ℕ → (ℕ → Bool) → (ℕ → Bool) → Option ℕ → Type 0
Tells codes f g (Some k) = FirstApart codes f g k
Tells codes f g None = (j : ℕ) → j < length codes → f (slice_index codes j) ≡ g (slice_index codes j)

-- the answer that the definition gives meets the law, for every list and every two functions
abbrev pub EarliestLaw : Type 0
EarliestLaw = (codes : List ℕ) (f g : ℕ → Bool) → Tells codes f g (earliest codes f g)
