-- How many vertices stand: fewer after each merge.
use Rattle.std.proofs.Common.{ℕ, zero, suc, ◌+◌, ◌*◌, ◌<◌, ◌≤◌, cond, eqb, List, sym, subst, inl, inr, arith}
use Rattle.std.proofs.lemmas.Bool.{cases_eq}
use Rattle.std.proofs.lemmas.Bool.Decides.{nat_tests}
use Rattle.aig.specs.Table.{link_of, Stands, standing}
use Rattle.aig.specs.declared.vertex.Vertex.{Vertex}

one_le : (t s : List Vertex) (m a b : ℕ) → (Stands s m → Stands t m) → a ≤ b → a + cond (eqb (link_of s m) (2 * m)) 1 0 ≤ b + cond (eqb (link_of t m) (2 * m)) 1 0
one_le t s m a b f h = grind (arith, nat_tests)

one_less : (t s : List Vertex) (m a b : ℕ) → Stands t m → (Stands s m → ⊥) → a ≤ b → a + cond (eqb (link_of s m) (2 * m)) 1 0 < b + cond (eqb (link_of t m) (2 * m)) 1 0
one_less t s m a b p q h = grind (arith, nat_tests)

pub standing_le : (t s : List Vertex) (m : ℕ) → ((v : ℕ) → v < m → Stands s v → Stands t v) → standing s m ≤ standing t m
standing_le t s zero f = omega arith
standing_le t s (suc m) f = one_le t s m _ _ (f m (omega arith)) (standing_le t s m (λ v h. f v (omega arith)))

pub standing_less : (t s : List Vertex) (m g : ℕ) → ((v : ℕ) → v < m → Stands s v → Stands t v)
    → g < m → Stands t g → (Stands s g → ⊥) → standing s m < standing t m
standing_less t s zero g f h p q = absurd (omega arith)
standing_less t s (suc m) g f h p q = elim (cases_eq g m) [
  | inl e ↦ one_less t s m _ _ (subst (λ (k : ℕ). Stands t k) e p) (λ r. q (subst (λ (k : ℕ). Stands s k) (sym e) r)) (standing_le t s m (λ v h. f v (omega arith)))
  | inr e ↦ (let less = standing_less t s m g (λ v h. f v (omega arith)) (omega arith) p q in let more = one_le t s m _ _ (f m (omega arith)) less in omega arith)
]
