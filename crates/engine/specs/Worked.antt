-- Piles on examples, and what being outside a pile says of its own reach.
use Rattle.std.specs.Prelude.{◌≡◌, ℕ, false, List, [], ◌∷◌, map}
use Rattle.engine.specs.Questions.{Question}
use Rattle.engine.specs.Piles.{Reach, Pile, single, chain, ladder, rung, reach_of, engines, Outside}

-- the limits at which the engines in a pile may be asked
abbrev pub limits : Pile → ℕ → List ℕ
limits pile limit = map (λ e. e.limit) (engines pile limit)

pub record Worked : Type 0 where
  -- the lower limits of a ladder
  pub rungs : map rung (4096 ∷ 100 ∷ 31 ∷ 16 ∷ 1 ∷ []) ≡ 256 ∷ 6 ∷ 1 ∷ 1 ∷ 1 ∷ []
  -- a ladder over a chain: itself; the chain and its two parts at the lower limit; the same at the limit
  pub over_chain : (r s : Reach) → limits (ladder (chain (single r) (single s))) 100 ≡ 100 ∷ 6 ∷ 6 ∷ 6 ∷ 100 ∷ 100 ∷ 100 ∷ []
  -- a ladder over a ladder goes down by two steps
  pub over_ladder : (r : Reach) → limits (ladder (ladder (single r))) 4096 ≡ 4096 ∷ 256 ∷ 16 ∷ 256 ∷ 4096 ∷ 256 ∷ 4096 ∷ []
  -- outside a pile is outside its own reach, so within it a pile never answers undecided
  pub own : (pile : Pile) (q : Question) → Outside pile q → reach_of pile q ≡ false
