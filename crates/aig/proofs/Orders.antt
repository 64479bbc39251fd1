-- Two nets, the smaller first.
use Rattle.std.proofs.Common.{◌≡◌, ℕ, ◌≤◌, ◌⊎◌, sym, subst, inl, inr, arith}
use Rattle.std.proofs.lemmas.Bool.{cases_lt}
use Rattle.aig.specs.Pairs.{Ordered}

module _ {x y a b : ℕ} (o : Ordered x y a b) where
  pub sorted : a ≤ b
  sorted = omega arith

  pub either : ((a ≡ x) × (b ≡ y)) ⊎ ((a ≡ y) × (b ≡ x))
  either = elim (cases_lt y x) [ inl h ↦ inr (omega arith, omega arith) | inr h ↦ inl (omega arith, omega arith) ]

  -- what holds of both before holds of both after
  pub of_both : (P : ℕ → Type 0) → P x → P y → P a × P b
  of_both P p q = elim either [ inl e ↦ (subst P (sym e.0) p, subst P (sym e.1) q) | inr e ↦ (subst P (sym e.0) q, subst P (sym e.1) p) ]
