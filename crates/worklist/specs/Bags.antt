-- A bag of waiting items, and what a put and a take do to it.
-- A list stands for a bag: `IsPermutation xs ys` says that ys is xs in some order, so that both are the same bag.
use Rattle.std.specs.Prelude.{◌≡◌, ℕ, ◌<◌, Bool, true, false, List, [], ◌∷◌, length, Some, None, Option}
use Rattle.std.specs.List.Sorted.{IsPermutation}

-- In `room` slots, with the bag xs waiting, x is put, and ys waits then.
-- Accepted: there was room, and x joins the bag. Refused: every slot holds a waiting item, and the bag stays.
abbrev pub Put : {X : Type 0} → ℕ → List X → X → Bool → List X → Type 0
Put room xs x true ys = (length xs < room) × IsPermutation (x ∷ xs) ys
Put room xs x false ys = (length xs ≡ room) × (ys ≡ xs)

-- With the bag xs waiting, a take answers, and ys waits then.
-- An item: it was one of xs, and ys are the others. None: nothing waited.
abbrev pub Took : {X : Type 0} → List X → Option X → List X → Type 0
Took xs None ys = (xs ≡ []) × (ys ≡ [])
Took xs (Some x) ys = IsPermutation xs (x ∷ ys)
