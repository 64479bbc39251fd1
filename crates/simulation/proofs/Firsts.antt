-- The law of the earliest code: the definition meets it, and what it says of an answer settles the answer.
use Rattle.std.proofs.Common.{◌≡◌, ℕ, ◌<◌, Bool, true, false, List, length, nat_lt, Option, Some, None, cond, refl, ap, ◌∙◌, sym, arith, ltb-true, ltb-false}
use Rattle.std.specs.List.{position_or_len}
use Rattle.std.proofs.lemmas.Bool.{both_ways}
use Rattle.std.proofs.lemmas.List.Sums.{passes_at_first, fails_before_first}
use Rattle.gates.specs.Kinds.{differ}
use Rattle.simulation.specs.Earliest.{earliest, FirstApart, Tells}

differ_same : (x : Bool) → differ x x ≡ false
differ_same true = refl
differ_same false = refl

differ_true : (x y : Bool) → differ x y ≡ true → x ≡ y → ⊥
differ_true x y d e = both_ways (differ x y) (ap (differ x) (sym e) ∙ differ_same x) d

differ_false : (x y : Bool) → differ x y ≡ false → x ≡ y
differ_false true true d = refl
differ_false true false d = d
differ_false false true d = sym d
differ_false false false d = refl

module _ (f g : ℕ → Bool) (codes : List ℕ) where
  abbrev apart : ℕ → Bool
  apart c = differ (f c) (g c)

  abbrev first : ℕ
  first = position_or_len apart codes

  by_test : (b : Bool) → nat_lt first (length codes) ≡ b → Tells codes f g (cond b (Some first) None)
  by_test true e = let h = ltb-true first (length codes) e in record {
    inside = h;
    apart = differ_true _ _ (passes_at_first apart codes 0 h);
    before = λ j l. differ_false _ _ (fails_before_first apart codes j 0 l);
  }
  by_test false e = λ j l. differ_false _ _ (fails_before_first apart codes j 0 (omega (arith, ltb-false first (length codes) e)))

  pub earliest_tells : Tells codes f g (earliest codes f g)
  earliest_tells = by_test (nat_lt first (length codes)) refl

  -- an answer that the law fits is one alone
  same_place : (j k : ℕ) → FirstApart codes f g j → FirstApart codes f g k → j ≡ k
  same_place j k t u =
      let left : j < k → ⊥ = λ h. t.apart (u.before j h) in
      let right : k < j → ⊥ = λ h. u.apart (t.before k h) in
      omega (arith, left, right)

  told_alike : (r s : Option ℕ) → Tells codes f g r → Tells codes f g s → r ≡ s
  told_alike (Some j) (Some k) t u = ap Some (same_place j k t u)
  told_alike (Some j) None t u = absurd (t.apart (u j t.inside))
  told_alike None (Some k) t u = absurd (u.apart (t k u.inside))
  told_alike None None t u = refl

  -- what the law says of an answer settles it
  pub tells_is : (r : Option ℕ) → Tells codes f g r → r ≡ earliest codes f g
  tells_is r t = told_alike r (earliest codes f g) t earliest_tells
