-- The laws that the heap and the ring owe as work lists, and what they rest on: the bag of a run holds what was put
-- and not taken, of which a heap takes the least first and a ring the oldest, and no more wait than there are slots.
use Rattle.std.specs.Prelude.{◌≡◌, ℕ, ◌≤◌, Bool, true, false, List, [], ◌∷◌, ◌++◌, reverse, length, take as front, Some, None, Option, refl}
use Rattle.std.specs.declared.cmp.Ordering.{Ordering}
use Rattle.std.proofs.Common.{sym, ap, subst, ◌∙◌, length-take}
use Rattle.std.proofs.Math.Nat.{le_trans, min-le_left}
use Rattle.std.specs.List.Sorted.{IsPermutation}
use Rattle.std.proofs.lemmas.List.{append_assoc, reverse-append}
use Rattle.std.proofs.lemmas.List.Sorted.{IsPermutation-refl, IsPermutation-sym, IsPermutation-cons, IsPermutation-append_right, IsPermutation-middle, IsPermutation-trans}
use Rattle.std.proofs.ByRecursion.{all_shuffled}
use Rattle.worklist.specs.Bags.{Put, Took}
use Rattle.worklist.specs.Queues.{Queued, Oldest, around, Circle}
use Rattle.worklist.specs.Orders.{above, NoLower, TookLeast}
use Rattle.worklist.specs.Calls.{Call, Run, started, puts, takes, added, gone}
use Rattle.worklist.specs.Laws.{EachTake, LeastFirst, FirstInFirstOut}

module _ {X : Type 0} where
  -- ---- bags

  -- what was put is what was taken and what waits
  pub balanced : {room : ℕ} (calls : List (Call X)) (xs : List X) → Run Put Took room calls xs → IsPermutation (added calls) (gone calls ++ xs)
  balanced _ _ started = IsPermutation-refl []
  balanced _ _ (puts {calls} {xs} {ys} x true run h) =
      IsPermutation-trans _ (x ∷ (gone calls ++ xs)) _ (IsPermutation-cons x _ _ (balanced calls xs run))
      (IsPermutation-trans _ (gone calls ++ x ∷ xs) _ (IsPermutation-sym _ _ (IsPermutation-middle (gone calls) x xs)) (IsPermutation-append_right (gone calls) (x ∷ xs) ys h.1))
  balanced _ _ (puts {calls} {xs} {ys} x false run h) = subst (λ l. IsPermutation (added calls) (gone calls ++ l)) (sym h.1) (balanced calls xs run)
  balanced _ _ (takes {calls} {xs} {ys} None run h) = subst (λ l. IsPermutation (added calls) (gone calls ++ l)) (h.0 ∙ sym h.1) (balanced calls xs run)
  balanced _ _ (takes {calls} {xs} {ys} (Some x) run h) =
      IsPermutation-trans _ (gone calls ++ xs) _ (balanced calls xs run)
      (IsPermutation-trans _ (gone calls ++ x ∷ ys) _ (IsPermutation-append_right (gone calls) xs (x ∷ ys) h) (IsPermutation-middle (gone calls) x ys))

  -- an item that leaves was put and not yet taken
  pub outstanding : {room : ℕ} (calls : List (Call X)) (xs : List X) (x : X) (ys : List X) → Run Put Took room calls xs → IsPermutation xs (x ∷ ys) → IsPermutation (added calls) (gone calls ++ x ∷ ys)
  outstanding calls xs x ys run h = IsPermutation-trans _ (gone calls ++ xs) _ (balanced calls xs run) (IsPermutation-append_right (gone calls) xs (x ∷ ys) h)

  -- the first n of any items are no more than there are slots, where n is not
  pub front_fits : (n : ℕ) (xs ys : List X) → n ≤ length ys → length (front n xs) ≤ length ys
  front_fits n xs ys le = subst (λ (k : ℕ). k ≤ length ys) (sym (length-take n xs)) (le_trans (min-le_left n (length xs)) le)

  -- ---- of any list whose puts and takes are puts and takes of a bag

  module _ (P : ℕ → List X → X → Bool → List X → Type 0) (Q : List X → Option X → List X → Type 0)
      (adds : (room : ℕ) (xs : List X) (x : X) (r : Bool) (ys : List X) → P room xs x r ys → Put room xs x r ys)
      (gives : (xs : List X) (r : Option X) (ys : List X) → Q xs r ys → Took xs r ys) where
    pub plain : {room : ℕ} (calls : List (Call X)) (xs : List X) → Run P Q room calls xs → Run Put Took room calls xs
    plain _ _ started = started
    plain {room} _ _ (puts {calls} {xs} {ys} x r run h) = puts x r (plain calls xs run) (adds room xs x r ys h)
    plain _ _ (takes {calls} {xs} {ys} r run h) = takes r (plain calls xs run) (gives xs r ys h)

    pub each_take : {room : ℕ} (First : X → List X → Type 0) (first : (xs : List X) (x : X) (ys : List X) → Q xs (Some x) ys → First x ys) (calls : List (Call X)) (xs : List X) → Run P Q room calls xs → EachTake First calls
    each_take First first _ _ started = tt
    each_take First first _ _ (puts {calls} {xs} x r run h) = each_take First first calls xs run
    each_take First first _ _ (takes {calls} {xs} None run h) = each_take First first calls xs run
    each_take First first _ _ (takes {calls} {xs} {ys} (Some x) run h) =
        ((ys, outstanding calls xs x ys (plain calls xs run) (gives xs (Some x) ys h), first xs x ys h), each_take First first calls xs run)

  -- ---- of a heap

  pub put_itself : (room : ℕ) (xs : List X) (x : X) (r : Bool) (ys : List X) → Put room xs x r ys → Put room xs x r ys
  put_itself room xs x r ys h = h

  module _ (R : X → X → Ordering) where
    pub took_least : (xs : List X) (r : Option X) (ys : List X) → TookLeast R xs r ys → Took xs r ys
    took_least xs None ys h = h
    took_least xs (Some x) ys h = h.0

    least_others : (xs : List X) (x : X) (ys : List X) → TookLeast R xs (Some x) ys → NoLower R x ys
    least_others xs x ys h = λ o. (all_shuffled (λ y. above o x y ≡ false) xs (x ∷ ys) h.0 (h.1 o)).1

    pub least_first : (room : ℕ) (calls : List (Call X)) (xs : List X) → Run Put (TookLeast R) room calls xs → LeastFirst R calls xs
    least_first room = each_take Put (TookLeast R) put_itself took_least (NoLower R) least_others

  -- ---- of a ring

  pub in_order : (room : ℕ) (calls : List (Call X)) (xs : List X) → Run Queued Oldest room calls xs → FirstInFirstOut calls xs
  in_order room _ _ started = refl
  in_order room _ _ (puts {calls} {xs} {ys} x true run h) =
      reverse-append (x ∷ []) (added calls) ∙ ap (λ l. l ++ x ∷ []) (in_order room calls xs run) ∙ append_assoc (reverse (gone calls)) xs (x ∷ []) ∙ ap (λ l. reverse (gone calls) ++ l) (sym h.1)
  in_order room _ _ (puts {calls} {xs} {ys} x false run h) = in_order room calls xs run ∙ ap (λ l. reverse (gone calls) ++ l) (sym h.1)
  in_order room _ _ (takes {calls} {xs} {ys} None run h) = in_order room calls xs run ∙ ap (λ l. reverse (gone calls) ++ l) (h.0 ∙ sym h.1)
  in_order room _ _ (takes {calls} {xs} {ys} (Some x) run h) =
      in_order room calls xs run ∙ ap (λ l. reverse (gone calls) ++ l) h ∙ sym (append_assoc (reverse (gone calls)) (x ∷ []) ys) ∙ ap (λ l. l ++ ys) (sym (reverse-append (x ∷ []) (gone calls)))

  pub bag_fits : (first count : ℕ) (xs : List X) → Circle first count xs → length (front count (around first xs)) ≤ length xs
  bag_fits first count xs c = front_fits count (around first xs) xs c.fits
