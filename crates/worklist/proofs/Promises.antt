-- What every string of calls comes to, from what each call does to the bag.
use Rattle.std.specs.Prelude.{◌≡◌, ℕ, ◌+◌, ◌<◌, Bool, true, false, ◌⊎◌, List, [], ◌∷◌, ◌++◌, length, Some, None, Option}
use Rattle.std.specs.declared.cmp.Ordering.{Ordering}
use Rattle.std.proofs.Common.{sym, ap, subst, ◌∙◌, arith, length-append}
use Rattle.std.specs.List.Sorted.{IsPermutation}
use Rattle.std.proofs.lemmas.List.{append-nil}
use Rattle.std.proofs.lemmas.List.Sorted.{IsPermutation-sym, IsPermutation-to_front, IsPermutation-trans, length_permutation}
use Rattle.std.proofs.ByRecursion.{all_shuffled}
use Rattle.worklist.specs.Bags.{Put, Took}
use Rattle.worklist.specs.Queues.{Queued, Oldest}
use Rattle.worklist.specs.Orders.{TookLeast}
use Rattle.worklist.specs.Items.{Foremost, TookForemost, ForemostFirst}
use Rattle.worklist.specs.Calls.{Call, put, take, Run, started, puts, takes, added, gone, Balanced, Faithful, Upheld, Promised}
use Rattle.worklist.specs.Laws.{LeastFirst, FirstInFirstOut}
use Rattle.worklist.specs.Owed.{balanced, outstanding, plain, each_take, put_itself, took_least, least_first, in_order}
use Rattle.worklist.proofs.Shuffling.{shuffled_is}

module _ {X : Type 0} where
  -- ---- of a bag

  weighed : (calls : List (Call X)) (xs : List X) → IsPermutation (added calls) (gone calls ++ xs) → Balanced calls xs
  weighed calls xs h = record { bag = h; number = sym (length_permutation (added calls) (gone calls ++ xs) h) ∙ length-append (gone calls) xs }

  faithful : {room : ℕ} (calls : List (Call X)) (xs : List X) → Run Put Took room calls xs → Faithful room calls
  faithful _ _ started = tt
  faithful {room} _ _ (puts {calls} {xs} x true run h) =
      let lt : length xs < room = h.0 in
      let sum = (weighed calls xs (balanced calls xs run)).number in
      (omega arith, faithful calls xs run)
  faithful {room} _ _ (puts {calls} {xs} x false run h) =
      let full : length xs ≡ room = h.0 in
      ((weighed calls xs (balanced calls xs run)).number ∙ ap (λ (n : ℕ). length (gone calls) + n) full, faithful calls xs run)
  faithful _ _ (takes {calls} {xs} None run h) =
      (subst (IsPermutation (added calls)) (ap (λ (l : List X). gone calls ++ l) h.0 ∙ append-nil (gone calls)) (balanced calls xs run), faithful calls xs run)
  faithful _ _ (takes {calls} {xs} {ys} (Some x) run h) = ((ys, outstanding calls xs x ys run h), faithful calls xs run)

  -- ---- of any list whose puts and takes are puts and takes of a bag

  module _ (P : ℕ → List X → X → Bool → List X → Type 0) (Q : List X → Option X → List X → Type 0)
      (adds : (room : ℕ) (xs : List X) (x : X) (r : Bool) (ys : List X) → P room xs x r ys → Put room xs x r ys)
      (gives : (xs : List X) (r : Option X) (ys : List X) → Q xs r ys → Took xs r ys) where
    module _ (rule : List (Call X) → List X → Type 0) (ruled : (room : ℕ) (calls : List (Call X)) (xs : List X) → Run P Q room calls xs → rule calls xs) where
      upheld : (room : ℕ) (calls : List (Call X)) (xs : List X) → Run P Q room calls xs → Upheld P Q rule room calls xs
      upheld room calls xs run = record {
        run = run;
        balance = weighed calls xs (balanced calls xs (plain P Q adds gives calls xs run));
        answers = faithful calls xs (plain P Q adds gives calls xs run);
        ruled = ruled room calls xs run;
      }

      put_promise : (room : ℕ) (xs : List X) (x : X) (r : Bool) (ys : List X) → P room xs x r ys → Promised P Q rule room xs (put x r) ys
      put_promise room xs x r ys h = λ calls run. upheld room (put x r ∷ calls) ys (puts x r run h)

      take_promise : (room : ℕ) (xs : List X) (r : Option X) (ys : List X) → Q xs r ys → Promised P Q rule room xs (take r) ys
      take_promise room xs r ys h = λ calls run. upheld room (take r ∷ calls) ys (takes r run h)

  -- ---- of a heap

  module _ (R : X → X → Ordering) where
    pub heap_put : (room : ℕ) (xs : List X) (x : X) (r : Bool) (ys : List X) → Put room xs x r ys → Promised Put (TookLeast R) (LeastFirst R) room xs (put x r) ys
    heap_put = put_promise Put (TookLeast R) put_itself (took_least R) (LeastFirst R) (least_first R)

    pub heap_take : (room : ℕ) (xs : List X) (r : Option X) (ys : List X) → TookLeast R xs r ys → Promised Put (TookLeast R) (LeastFirst R) room xs (take r) ys
    heap_take = take_promise Put (TookLeast R) put_itself (took_least R) (LeastFirst R) (least_first R)

  module _ (B : X → X → Type 0) where
    took_foremost : (xs : List X) (r : Option X) (ys : List X) → TookForemost B xs r ys → Took xs r ys
    took_foremost xs None ys h = h
    took_foremost xs (Some x) ys h = h.0

    foremost_others : (xs : List X) (x : X) (ys : List X) → TookForemost B xs (Some x) ys → Foremost B x ys
    foremost_others xs x ys h = (all_shuffled (λ y. (x ≡ y) ⊎ B x y) xs (x ∷ ys) h.0 h.1).1

    foremost_first : (room : ℕ) (calls : List (Call X)) (xs : List X) → Run Put (TookForemost B) room calls xs → ForemostFirst B calls xs
    foremost_first room = each_take Put (TookForemost B) put_itself took_foremost (Foremost B) foremost_others

    pub foremost_take : (room : ℕ) (xs : List X) (r : Option X) (ys : List X) → TookForemost B xs r ys → Promised Put (TookForemost B) (ForemostFirst B) room xs (take r) ys
    foremost_take = take_promise Put (TookForemost B) put_itself took_foremost (ForemostFirst B) foremost_first

  -- ---- of a ring

  pub put_queued : (room : ℕ) (xs : List X) (x : X) (r : Bool) (ys : List X) → Queued room xs x r ys → Put room xs x r ys
  put_queued room xs x true ys h = (h.0, IsPermutation-trans _ (xs ++ x ∷ []) _ (IsPermutation-sym _ _ (IsPermutation-to_front xs x)) (shuffled_is _ _ h.1))
  put_queued room xs x false ys h = h

  pub took_oldest : (xs : List X) (r : Option X) (ys : List X) → Oldest xs r ys → Took xs r ys
  took_oldest xs None ys h = h
  took_oldest xs (Some x) ys h = shuffled_is _ _ (sym h)

  pub ring_put : (room : ℕ) (xs : List X) (x : X) (r : Bool) (ys : List X) → Queued room xs x r ys → Promised Queued Oldest FirstInFirstOut room xs (put x r) ys
  ring_put = put_promise Queued Oldest put_queued took_oldest FirstInFirstOut in_order

  pub ring_take : (room : ℕ) (xs : List X) (r : Option X) (ys : List X) → Oldest xs r ys → Promised Queued Oldest FirstInFirstOut room xs (take r) ys
  ring_take = take_promise Queued Oldest put_queued took_oldest FirstInFirstOut in_order
