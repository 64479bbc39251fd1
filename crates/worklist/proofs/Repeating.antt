-- Two lists that are asked alike answer alike: heaps whose items of equal rank are the same item, and rings.
use Rattle.std.proofs.Common.{◌≡◌, ℕ, ◌<◌, true, false, List, [], ◌∷◌, ◌++◌, length, Some, None, Option, Ordering, Equal, sym, refl, ap, ◌∙◌, subst, arith}
use Rattle.std.specs.Cmp.{IsTotalOrder, tied_itself}
use Rattle.std.proofs.lemmas.Map.Lookups.{CmpEqualImpliesEq}
use Rattle.worklist.specs.Queues.{Queued, Oldest}
use Rattle.worklist.specs.Calls.{Call, put, take, Run, started, puts, takes}
use Rattle.worklist.specs.Laws.{asked, Asked, Answered, Repeats, HeapsRepeat}
use Rattle.worklist.proofs.Ties.{by_rank}

module _ {X : Type 0} where
  -- the parts of two equal strings of questions
  item_of : (x y : X) (a b : List (Option X)) → Some x ∷ a ≡ Some y ∷ b → x ≡ y
  item_of x y a b e = cc

  rest_of : (p q : Option X) (a b : List (Option X)) → p ∷ a ≡ q ∷ b → a ≡ b
  rest_of p q a b e = cc

  put_take : (x : X) (a b : List (Option X)) → Some x ∷ a ≡ None ∷ b → ⊥
  put_take x a b e = let z : ◌≡◌ {A = ℕ} 0 1 = cc in omega arith

  some_none : (p : Option X) (a : List (Option X)) → p ∷ a ≡ [] → ⊥
  some_none p a e = let z : ◌≡◌ {A = ℕ} 0 1 = cc in omega arith

  -- ---- heaps

  module _ {R : X → X → Ordering} (o : IsTotalOrder R) where
    agree : (es fs : List (Call X)) → asked es ≡ asked fs → Asked o es fs
    agree [] [] e = tt
    agree [] (put y s ∷ fs) e = some_none (Some y) (asked fs) (sym e)
    agree [] (take s ∷ fs) e = some_none None (asked fs) (sym e)
    agree (put x r ∷ es) [] e = some_none (Some x) (asked es) e
    agree (take r ∷ es) [] e = some_none None (asked es) e
    agree (put x r ∷ es) (put y s ∷ fs) e =
        (subst (λ w. R x w ≡ Equal) (item_of x y (asked es) (asked fs) e) (tied_itself o x), agree es fs (rest_of (Some x) (Some y) (asked es) (asked fs) e))
    agree (put x r ∷ es) (take s ∷ fs) e = put_take x (asked es) (asked fs) e
    agree (take r ∷ es) (put y s ∷ fs) e = put_take y (asked fs) (asked es) (sym e)
    agree (take r ∷ es) (take s ∷ fs) e = agree es fs (rest_of None None (asked es) (asked fs) e)

    module _ (exact : CmpEqualImpliesEq R) where
      same : (es fs : List (Call X)) → asked es ≡ asked fs → Answered o es fs → es ≡ fs
      same [] [] e a = refl
      same [] (put y s ∷ fs) e a = absurd a
      same [] (take s ∷ fs) e a = absurd a
      same (put x r ∷ es) [] e a = absurd a
      same (take r ∷ es) [] e a = absurd a
      same (put x r ∷ es) (put y s ∷ fs) e a =
          let i = item_of x y (asked es) (asked fs) e in
          let t = same es fs (rest_of (Some x) (Some y) (asked es) (asked fs) e) a.1 in
          (λ k. put (i k) (a.0 k) ∷ t k)
      same (put x r ∷ es) (take s ∷ fs) e a = absurd a
      same (take r ∷ es) (put y s ∷ fs) e a = absurd a
      same (take None ∷ es) (take None ∷ fs) e a = ap (λ l. take None ∷ l) (same es fs (rest_of None None (asked es) (asked fs) e) a.1)
      same (take None ∷ es) (take (Some y) ∷ fs) e a = absurd a.0
      same (take (Some x) ∷ es) (take None ∷ fs) e a = absurd a.0
      same (take (Some x) ∷ es) (take (Some y) ∷ fs) e a =
          let i = exact x y a.0 in
          let t = same es fs (rest_of None None (asked es) (asked fs) e) a.1 in
          (λ k. take (Some (i k)) ∷ t k)

  pub heaps : (R : X → X → Ordering) → HeapsRepeat R
  heaps R = λ o exact room es fs xs ys p q e. same o exact es fs e (by_rank R o room es fs xs ys p q (agree o es fs e))

  -- ---- rings

  unlike : (xs ys : List X) (room : ℕ) → xs ≡ ys → length xs < room → length ys ≡ room → ⊥
  unlike xs ys room e lt full = let same : length xs ≡ length ys = ap length e in omega arith

  one_empty : (xs ys : List X) (y : X) (zs : List X) → xs ≡ ys → xs ≡ [] → ys ≡ y ∷ zs → ⊥
  one_empty xs ys y zs e p q = let z : ◌≡◌ {A = ℕ} 0 1 = cc in omega arith

  first_item : (xs ys : List X) (x y : X) (us vs : List X) → xs ≡ ys → xs ≡ x ∷ us → ys ≡ y ∷ vs → x ≡ y
  first_item xs ys x y us vs e p q = cc

  others_of : (xs ys : List X) (x y : X) (us vs : List X) → xs ≡ ys → xs ≡ x ∷ us → ys ≡ y ∷ vs → us ≡ vs
  others_of xs ys x y us vs e p q = cc

  in_step : {room : ℕ} (es fs : List (Call X)) (xs ys : List X) → Run Queued Oldest room es xs → Run Queued Oldest room fs ys → asked es ≡ asked fs → (es ≡ fs) × (xs ≡ ys)
  in_step _ _ _ _ started started e = (refl, refl)
  in_step _ _ _ _ started (puts {calls = fs} y s q j) e = absurd (some_none (Some y) (asked fs) (sym e))
  in_step _ _ _ _ started (takes {calls = fs} s q j) e = absurd (some_none None (asked fs) (sym e))
  in_step _ _ _ _ (puts {calls = es} x r p h) started e = absurd (some_none (Some x) (asked es) e)
  in_step _ _ _ _ (takes {calls = es} r p h) started e = absurd (some_none None (asked es) e)
  in_step _ _ _ _ (puts {calls = es} x r p h) (takes {calls = fs} s q j) e = absurd (put_take x (asked es) (asked fs) e)
  in_step _ _ _ _ (takes {calls = es} r p h) (puts {calls = fs} y s q j) e = absurd (put_take y (asked fs) (asked es) (sym e))
  in_step _ _ _ _ (puts {calls = es} {xs} {ys = xs'} x true p h) (puts {calls = fs} {xs = ys} {ys = ys'} y true q j) e =
      let i = item_of x y (asked es) (asked fs) e in
      let t = in_step es fs xs ys p q (rest_of (Some x) (Some y) (asked es) (asked fs) e) in
      (λ k. put (i k) true ∷ t.0 k, h.1 ∙ (λ k. t.1 k ++ i k ∷ []) ∙ sym j.1)
  in_step {room} _ _ _ _ (puts {calls = es} {xs} {ys = xs'} x true p h) (puts {calls = fs} {xs = ys} {ys = ys'} y false q j) e =
      absurd (unlike xs ys room (in_step es fs xs ys p q (rest_of (Some x) (Some y) (asked es) (asked fs) e)).1 h.0 j.0)
  in_step {room} _ _ _ _ (puts {calls = es} {xs} {ys = xs'} x false p h) (puts {calls = fs} {xs = ys} {ys = ys'} y true q j) e =
      absurd (unlike ys xs room (sym (in_step es fs xs ys p q (rest_of (Some x) (Some y) (asked es) (asked fs) e)).1) j.0 h.0)
  in_step _ _ _ _ (puts {calls = es} {xs} {ys = xs'} x false p h) (puts {calls = fs} {xs = ys} {ys = ys'} y false q j) e =
      let i = item_of x y (asked es) (asked fs) e in
      let t = in_step es fs xs ys p q (rest_of (Some x) (Some y) (asked es) (asked fs) e) in
      (λ k. put (i k) false ∷ t.0 k, h.1 ∙ t.1 ∙ sym j.1)
  in_step _ _ _ _ (takes {calls = es} {xs} {ys = xs'} None p h) (takes {calls = fs} {xs = ys} {ys = ys'} None q j) e =
      (ap (λ l. take None ∷ l) (in_step es fs xs ys p q (rest_of None None (asked es) (asked fs) e)).0, h.1 ∙ sym j.1)
  in_step _ _ _ _ (takes {calls = es} {xs} {ys = xs'} None p h) (takes {calls = fs} {xs = ys} {ys = ys'} (Some y) q j) e =
      absurd (one_empty xs ys y ys' (in_step es fs xs ys p q (rest_of None None (asked es) (asked fs) e)).1 h.0 j)
  in_step _ _ _ _ (takes {calls = es} {xs} {ys = xs'} (Some x) p h) (takes {calls = fs} {xs = ys} {ys = ys'} None q j) e =
      absurd (one_empty ys xs x xs' (sym (in_step es fs xs ys p q (rest_of None None (asked es) (asked fs) e)).1) j.0 h)
  in_step _ _ _ _ (takes {calls = es} {xs} {ys = xs'} (Some x) p h) (takes {calls = fs} {xs = ys} {ys = ys'} (Some y) q j) e =
      let t = in_step es fs xs ys p q (rest_of None None (asked es) (asked fs) e) in
      let i = first_item xs ys x y xs' ys' t.1 h j in
      (λ k. take (Some (i k)) ∷ t.0 k, others_of xs ys x y xs' ys' t.1 h j)

  pub rings : Repeats {X = X} Queued Oldest
  rings = λ room es fs xs ys p q e. (in_step es fs xs ys p q e).0
