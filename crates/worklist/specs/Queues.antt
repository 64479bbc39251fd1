-- A queue: a bag whose list has its items in the order in which they were put, and how a ring of slots holds one.
use Rattle.std.specs.Prelude.{◌≡◌, ℕ, ◌+◌, ◌%◌, ◌<◌, ◌≤◌, Bool, true, false, List, [], ◌∷◌, ◌++◌, length, take, drop, Some, None, Option}

-- a put into a queue: the item comes last
abbrev pub Queued : {X : Type 0} → ℕ → List X → X → Bool → List X → Type 0
Queued room xs x true ys = (length xs < room) × (ys ≡ xs ++ x ∷ [])
Queued room xs x false ys = (length xs ≡ room) × (ys ≡ xs)

-- a take from a queue: the first item leaves
abbrev pub Oldest : {X : Type 0} → List X → Option X → List X → Type 0
Oldest xs None ys = (xs ≡ []) × (ys ≡ [])
Oldest xs (Some x) ys = xs ≡ x ∷ ys

-- the slots, read round from the slot `first`
abbrev pub around : {X : Type 0} → ℕ → List X → List X
around first slots = drop first slots ++ take first slots

-- the slot behind the last of `count` waiting items, of which the oldest stands in slot `first`
abbrev pub behind : ℕ → ℕ → ℕ → ℕ
behind first count room = (first + count) % room

-- what a ring of `count` waiting items keeps of its slots
pub record Circle {X : Type 0} (first count : ℕ) (slots : List X) : Type 0 where
  pub fits : count ≤ length slots
  pub within : 0 < length slots → first < length slots
