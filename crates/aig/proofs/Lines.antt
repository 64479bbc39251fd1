-- The lines of the AND as the definition has them, from what the lookup found.
use Rattle.std.proofs.Common.{◌≡◌, ℕ, zero, suc, ◌*◌, ◌<◌, ◌≤◌, max, true, List, [], ◌∷◌, ◌++◌, length, Some, None, sym, refl, ap, ◌∙◌, subst, inl, inr, arith}
use Rattle.std.proofs.lemmas.Bool.{cases_eq, cases_Bool, both_ways, eqb-true, ltb-true, and_parts, cond-true, cond-false}
use Rattle.std.proofs.lemmas.Bool.Decides.{nat_tests}
use Rattle.aig.specs.declared.vertex.Vertex.{Vertex}
use Rattle.aig.specs.Table.{left_of, right_of, survivor_of, vertex}
use Rattle.aig.specs.Invariant.{Proper, StandingGate, NoTwins, Whole}
use Rattle.aig.specs.Pairs.{Ordered, Folds, zero_first, one_first, same, opposed, Absent, at, Known, folds, found, Unknown}
use Rattle.aig.specs.Ands.{Made, has_pair, found as found_below, found_or_fresh, first_line, and_of}

-- ---- the search for a pair

module _ (n : ℕ) (t : List Vertex) (a b : ℕ) where
  pub pair_yes : (v : ℕ) → StandingGate n t v → left_of t v ≡ a → right_of t v ≡ b → has_pair n t a b v ≡ true
  pair_yes v s l r = let after = s.after in let up = s.stands in grind (arith, nat_tests)

  pub pair_is : (v : ℕ) → v < length t → has_pair n t a b v ≡ true → StandingGate n t v × (left_of t v ≡ a) × (right_of t v ≡ b)
  pair_is v h e =
      let p = and_parts _ _ e in
      let q = and_parts _ _ p.1 in
      let r = and_parts _ _ q.1 in
      (record { after = ltb-true n v p.0; inside = h; stands = eqb-true _ _ q.0 }, eqb-true _ _ r.0, eqb-true _ _ r.1)

  found_none : Absent n t a b → (m : ℕ) → m ≤ length t → found_below n t a b m ≡ None
  found_none f zero h = refl
  found_none f (suc m) h = elim (cases_Bool (has_pair n t a b m)) [
    | inl e ↦ (let p = pair_is m (omega arith) e in absurd (f m p.0 p.1 p.2))
    | inr e ↦ cond-false _ _ _ e ∙ found_none f m (omega arith)
  ]

  found_some : NoTwins n t → (v : ℕ) → StandingGate n t v → left_of t v ≡ a → right_of t v ≡ b → (m : ℕ) → m ≤ length t → v < m → found_below n t a b m ≡ Some v
  found_some u v s l r zero h k = absurd (omega arith)
  found_some u v s l r (suc m) h k = elim (cases_Bool (has_pair n t a b m)) [
    | inl e ↦ (let p = pair_is m (omega arith) e in
        cond-true _ _ _ e ∙ ap (λ (x : ℕ). Some x) (u m v (record { one = p.0; other = s; lefts = p.1 ∙ sym l; rights = p.2 ∙ sym r })))
    | inr e ↦ elim (cases_eq v m) [
      | inl q ↦ absurd (both_ways (has_pair n t a b m) e (subst (λ (x : ℕ). has_pair n t a b x ≡ true) q (pair_yes v s l r)))
      | inr q ↦ cond-false _ _ _ e ∙ found_some u v s l r m (omega arith) (omega arith)
    ]
  ]

  -- ---- the lines in turn

  pub proper_line : Proper a b → first_line n t a b ≡ found_or_fresh t a b (found_below n t a b (length t))
  proper_line p = let one = p.0 in let two = p.1 in grind (arith, nat_tests)

  abbrev left_alone : ℕ → Made
  left_alone x = record { net = x; table = t }

  fold_line : (x : ℕ) → Folds a b x → first_line n t a b ≡ left_alone x
  fold_line _ (zero_first e) = grind (arith, nat_tests)
  fold_line _ (one_first e) = grind (arith, nat_tests)
  fold_line _ (same e) = grind (arith, nat_tests)
  fold_line _ (opposed e) = grind (arith, nat_tests)

  known_line : NoTwins n t → (x : ℕ) → Known n t a b x → first_line n t a b ≡ left_alone x
  known_line u _ (folds x f) = fold_line x f
  known_line u _ (found _ p (at v s l r)) =
      proper_line p ∙ ap (found_or_fresh t a b) (found_some u v s l r (length t) (omega arith) s.inside)

  fresh_line : Unknown n t a b → first_line n t a b ≡ record { net = 2 * length t; table = t ++ vertex a b (2 * length t) ∷ [] }
  fresh_line f = proper_line f.proper ∙ ap (found_or_fresh t a b) (found_none f.absent (length t) (omega arith))

-- ---- the AND of two nets

module _ {n : ℕ} {t : List Vertex} (w : Whole n t) (x y : ℕ) {a b : ℕ} (o : Ordered (survivor_of t x) (survivor_of t y) a b) where
  by_pair : and_of n t x y ≡ first_line n t a b
  unfolding and_of
  by_pair = ap (λ (k : ℕ). first_line n t k (max (survivor_of t x) (survivor_of t y))) (sym o.low) ∙ ap (first_line n t a) (sym o.high)

  pub known_lines : (net : ℕ) → Known n t a b net → and_of n t x y ≡ record { net = net; table = t }
  known_lines net k = by_pair ∙ known_line n t a b w.unique net k

  pub fresh_lines : Unknown n t a b → and_of n t x y ≡ record { net = 2 * length t; table = t ++ vertex a b (2 * length t) ∷ [] }
  fresh_lines f = by_pair ∙ fresh_line n t a b f
