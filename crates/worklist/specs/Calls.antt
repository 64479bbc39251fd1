-- Strings of calls to one work list, from its start, and what every such string is held to.
-- In a string the latest call stands first.
use Rattle.std.specs.Prelude.{◌≡◌, ℕ, ◌+◌, ◌<◌, Bool, true, false, List, [], ◌∷◌, ◌++◌, length, Some, None, Option}
use Rattle.std.specs.List.Sorted.{IsPermutation}

-- a call, with what it answered
pub data Call (X : Type 0) : Type 0 where
  put : X → Bool → Call X
  take : Option X → Call X

-- the items that were put and not refused, the latest first
abbrev pub added : {X : Type 0} → List (Call X) → List X
added [] = []
added (put x true ∷ calls) = x ∷ added calls
added (put x false ∷ calls) = added calls
added (take r ∷ calls) = added calls

-- the items that were taken, the latest first
abbrev pub gone : {X : Type 0} → List (Call X) → List X
gone [] = []
gone (put x r ∷ calls) = gone calls
gone (take None ∷ calls) = gone calls
gone (take (Some x) ∷ calls) = x ∷ gone calls

-- the calls, and then a put of each item, each accepted
abbrev pub then_put : {X : Type 0} → List X → List (Call X) → List (Call X)
then_put [] calls = calls
then_put (x ∷ xs) calls = then_put xs (put x true ∷ calls)

-- the calls, and then takes that answered the items
abbrev pub then_taken : {X : Type 0} → List X → List (Call X) → List (Call X)
then_taken [] calls = calls
then_taken (x ∷ xs) calls = then_taken xs (take (Some x) ∷ calls)

-- Calls of a work list in `room` slots, from its start, and the bag that then waits.
-- Each call does what P, for a put, and Q, for a take, says of the bag before and after it.
pub data Run {X : Type 0} (P : ℕ → List X → X → Bool → List X → Type 0) (Q : List X → Option X → List X → Type 0) (room : ℕ) : List (Call X) → List X → Type 0 where
  started : Run P Q room [] []
  puts : {calls : List (Call X)} {xs ys : List X} (x : X) (r : Bool) → Run P Q room calls xs → P room xs x r ys → Run P Q room (put x r ∷ calls) ys
  takes : {calls : List (Call X)} {xs ys : List X} (r : Option X) → Run P Q room calls xs → Q xs r ys → Run P Q room (take r ∷ calls) ys

-- whatever run led to the bag xs, with the calls that `more` adds it is a run that leads to ys
abbrev pub GoesOn : {X : Type 0} → (ℕ → List X → X → Bool → List X → Type 0) → (List X → Option X → List X → Type 0) → ℕ → List X → (List (Call X) → List (Call X)) → List X → Type 0
GoesOn {X} P Q room xs more ys = (calls : List (Call X)) → Run P Q room calls xs → Run P Q room (more calls) ys

-- what was put is what was taken and what waits, as bags and in number
pub record Balanced {X : Type 0} (calls : List (Call X)) (waiting : List X) : Type 0 where
  pub bag : IsPermutation (added calls) (gone calls ++ waiting)
  pub number : length (added calls) ≡ length (gone calls) + length waiting

-- Every answer in the string was right, told from the calls before it alone:
-- a put was accepted with fewer than `room` items put and not taken, and refused with `room` of them;
-- none was answered with every item that was put taken; an item was answered that was put and not yet taken.
abbrev pub Faithful : {X : Type 0} → ℕ → List (Call X) → Type 0
Faithful room [] = Unit {0}
Faithful room (put x true ∷ calls) = (length (added calls) < length (gone calls) + room) × Faithful room calls
Faithful room (put x false ∷ calls) = (length (added calls) ≡ length (gone calls) + room) × Faithful room calls
Faithful room (take None ∷ calls) = IsPermutation (added calls) (gone calls) × Faithful room calls
Faithful {X} room (take (Some x) ∷ calls) = ((others : List X) × IsPermutation (added calls) (gone calls ++ x ∷ others)) × Faithful room calls

-- what holds of every string of calls; `rule` is the list's own, as which item goes first
pub record Upheld {X : Type 0} (P : ℕ → List X → X → Bool → List X → Type 0) (Q : List X → Option X → List X → Type 0) (rule : List (Call X) → List X → Type 0) (room : ℕ) (calls : List (Call X)) (waiting : List X) : Type 0 where
  pub run : Run P Q room calls waiting
  pub balance : Balanced calls waiting
  pub answers : Faithful room calls
  pub ruled : rule calls waiting

-- whatever was called before, so that xs waits, with this call it is a string again, and all is upheld
abbrev pub Promised : {X : Type 0} → (ℕ → List X → X → Bool → List X → Type 0) → (List X → Option X → List X → Type 0) → (List (Call X) → List X → Type 0) → ℕ → List X → Call X → List X → Type 0
Promised {X} P Q rule room xs call ys = (calls : List (Call X)) → Run P Q room calls xs → Upheld P Q rule room (call ∷ calls) ys
