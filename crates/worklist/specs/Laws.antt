-- Laws over whole strings of calls: which item goes first, and that lists asked alike answer alike.
use Rattle.std.specs.Prelude.{◌≡◌, ℕ, Bool, List, [], ◌∷◌, ◌++◌, reverse, Some, None, Option}
use Rattle.std.specs.declared.cmp.Ordering.TheVariants.{Equal}
use Rattle.std.specs.declared.cmp.Ordering.{Ordering}
use Rattle.std.specs.Cmp.{IsTotalOrder}
use Rattle.std.specs.List.Sorted.{IsPermutation}
use Rattle.std.proofs.lemmas.Map.Lookups.{CmpEqualImpliesEq}
use Rattle.worklist.specs.Bags.{Put}
use Rattle.worklist.specs.Orders.{NoLower, TookLeast}
use Rattle.worklist.specs.Calls.{Call, put, take, Run, added, gone}

-- each item taken, x, was put before and not yet taken, and `First x others` holds, where `others` then waited with it
abbrev pub EachTake : {X : Type 0} → (X → List X → Type 0) → List (Call X) → Type 0
EachTake First [] = Unit {0}
EachTake First (put x r ∷ calls) = EachTake First calls
EachTake First (take None ∷ calls) = EachTake First calls
EachTake {X} First (take (Some x) ∷ calls) = ((others : List X) × IsPermutation (added calls) (gone calls ++ x ∷ others) × First x others) × EachTake First calls

-- of a heap: no item that waited ranks below the one that was taken
abbrev pub LeastFirst : {X : Type 0} → (X → X → Ordering) → List (Call X) → List X → Type 0
LeastFirst R calls waiting = EachTake (NoLower R) calls

-- of a ring: what was put, in its order, is what was taken, in its order, and then what waits
abbrev pub FirstInFirstOut : {X : Type 0} → List (Call X) → List X → Type 0
FirstInFirstOut calls waiting = reverse (added calls) ≡ reverse (gone calls) ++ waiting

-- what was asked, without the answers: the item of a put, none for a take
abbrev pub asked : {X : Type 0} → List (Call X) → List (Option X)
asked [] = []
asked (put x r ∷ calls) = Some x ∷ asked calls
asked (take r ∷ calls) = None ∷ asked calls

-- two lists in as many slots that are asked alike answer alike
abbrev pub Repeats : {X : Type 0} → (ℕ → List X → X → Bool → List X → Type 0) → (List X → Option X → List X → Type 0) → Type 0
Repeats {X} P Q = (room : ℕ) (calls again : List (Call X)) (xs ys : List X) → Run P Q room calls xs → Run P Q room again ys → asked calls ≡ asked again → calls ≡ again

-- two heaps whose items of equal rank are the same item
abbrev pub HeapsRepeat : {X : Type 0} → (X → X → Ordering) → Type 0
HeapsRepeat R = (o : IsTotalOrder R) → CmpEqualImpliesEq R → Repeats Put (TookLeast R)

-- Where different items may be of equal rank, two heaps answer alike up to rank.
module _ {X : Type 0} {R : X → X → Ordering} (o : IsTotalOrder R) where
  -- the same calls, with items of equal rank put
  abbrev pub Asked : List (Call X) → List (Call X) → Type 0
  Asked [] [] = Unit {0}
  Asked [] (f ∷ fs) = ⊥
  Asked (e ∷ es) [] = ⊥
  Asked (put x r ∷ es) (put y s ∷ fs) = (R x y ≡ Equal) × Asked es fs
  Asked (put x r ∷ es) (take s ∷ fs) = ⊥
  Asked (take r ∷ es) (put y s ∷ fs) = ⊥
  Asked (take r ∷ es) (take s ∷ fs) = Asked es fs

  -- none and none, or two items of equal rank
  abbrev pub Tied : Option X → Option X → Type 0
  Tied None None = Unit {0}
  Tied None (Some y) = ⊥
  Tied (Some x) None = ⊥
  Tied (Some x) (Some y) = R x y ≡ Equal

  -- the same calls, with answers of equal rank
  abbrev pub Answered : List (Call X) → List (Call X) → Type 0
  Answered [] [] = Unit {0}
  Answered [] (f ∷ fs) = ⊥
  Answered (e ∷ es) [] = ⊥
  Answered (put x r ∷ es) (put y s ∷ fs) = (r ≡ s) × Answered es fs
  Answered (put x r ∷ es) (take s ∷ fs) = ⊥
  Answered (take r ∷ es) (put y s ∷ fs) = ⊥
  Answered (take r ∷ es) (take s ∷ fs) = Tied r s × Answered es fs

abbrev pub HeapsRepeatByRank : {X : Type 0} → (X → X → Ordering) → Type 0
HeapsRepeatByRank {X} R = (o : IsTotalOrder R) (room : ℕ) (calls again : List (Call X)) (xs ys : List X) → Run Put (TookLeast R) room calls xs → Run Put (TookLeast R) room again ys → Asked o calls again → Answered o calls again
