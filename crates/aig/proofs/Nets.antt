-- Nets as the code computes them, and the value of an inverted net.
use Rattle.std.proofs.Common.{◌≡◌, ℕ, ◌+◌, ◌*◌, ◌/◌, ◌%◌, ◌⊎◌, sym, ap, ◌∙◌, inl, inr, arith}
use lib.Bits.{bit_and, bit_xor, and_mask, xor_shr, xor_mod, xor_zero_r}
use Rattle.aig.specs.Nets.{carried, flip}
use Rattle.aig.specs.Algebras.{Algebra, net_at}

pub bit_cases : (x : ℕ) → (x % 2 ≡ 0) ⊎ (x % 2 ≡ 1)
bit_cases x = search arith

flip_one : (l : ℕ) → bit_xor l 1 ≡ l / 2 * 2 + (l + 1) % 2
flip_one l =
    let hi : bit_xor l 1 / 2 ≡ l / 2 = xor_shr l 1 1 ∙ xor_zero_r (l / 2) in
    let lo : bit_xor l 1 % 2 ≡ bit_xor (l % 2) 1 = xor_mod l 1 1 in
    elim (bit_cases l) [
      | inl e ↦ (let lo2 : bit_xor l 1 % 2 ≡ 1 = lo ∙ ap (λ (x : ℕ). bit_xor x 1) e in omega arith)
      | inr e ↦ (let lo2 : bit_xor l 1 % 2 ≡ 0 = lo ∙ ap (λ (x : ℕ). bit_xor x 1) e in omega arith)
    ]

pub carried_is : (l x : ℕ) → bit_xor l (bit_and x 1) ≡ carried l x
carried_is l x =
    let m : bit_and x 1 ≡ x % 2 = and_mask x 1 in
    elim (bit_cases x) [
      | inl e ↦ (let q : bit_xor l (bit_and x 1) ≡ l = ap (bit_xor l) (m ∙ e) ∙ xor_zero_r l in omega arith)
      | inr e ↦ (let q : bit_xor l (bit_and x 1) ≡ l / 2 * 2 + (l + 1) % 2 = ap (bit_xor l) (m ∙ e) ∙ flip_one l in omega arith)
    ]

pub half_carried : (l x : ℕ) → carried l x / 2 ≡ l / 2
half_carried l x = omega arith

pub bit_carried : (l x : ℕ) → carried l x % 2 ≡ (x % 2 + l % 2) % 2
bit_carried l x = omega arith

-- values of nets in an algebra
module _ {X : Type 0} (A : Algebra X) where
  flips : (a b c : ℕ) (v : X) → ((a ≡ 0) ⊎ (a ≡ 1)) → ((b ≡ 0) ⊎ (b ≡ 1)) → c ≡ (a + b) % 2 → flip A.opposite a (flip A.opposite b v) ≡ flip A.opposite c v
  flips a b c v (inl p) (inl q) e = let z : c ≡ 0 = omega arith in rw (p, q, z)
  flips a b c v (inl p) (inr q) e = let z : c ≡ 1 = omega arith in rw (p, q, z)
  flips a b c v (inr p) (inl q) e = let z : c ≡ 1 = omega arith in rw (p, q, z)
  flips a b c v (inr p) (inr q) e = let z : c ≡ 0 = omega arith in rw (p, q, z) (A.opposite_twice v)

  pub value_carried : (ρ : ℕ → X) (l x : ℕ) → flip A.opposite (x % 2) (net_at A ρ l) ≡ net_at A ρ (carried l x)
  value_carried ρ l x =
      flips (x % 2) (l % 2) (carried l x % 2) (ρ (l / 2)) (bit_cases x) (bit_cases l) (bit_carried l x)
      ∙ ap (λ (k : ℕ). flip A.opposite (carried l x % 2) (ρ k)) (sym (half_carried l x))

  pub flip_twice : (x : ℕ) (v : X) → flip A.opposite (x % 2) (flip A.opposite (x % 2) v) ≡ v
  flip_twice x v = flips (x % 2) (x % 2) 0 v (bit_cases x) (bit_cases x) (omega arith)

  pub value_twice : (ρ : ℕ → X) (v : ℕ) → net_at A ρ (2 * v) ≡ ρ v
  value_twice ρ v =
      let e : 2 * v % 2 ≡ 0 = omega arith in
      let h : 2 * v / 2 ≡ v = omega arith in
      rw (e, h)
