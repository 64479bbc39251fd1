-- only the first bits of a code matter, as many as there are inputs
use Rattle.std.proofs.Common.{◌≡◌, ℕ, ◌+◌, ◌-◌, ◌*◌, ◌/◌, ◌%◌, ◌^◌, ◌<◌, Bool, not, eqb, List, length, sym, ap, ◌∙◌, subst, inl, inr, arith}
use Rattle.std.proofs.lemmas.Nat.{mod-pow-add, field_of, mod_below, pow_pos}
use Rattle.std.proofs.lemmas.Bool.{cases_eq, cases_lt}
use Rattle.aig.specs.Nets.{flip}
use Rattle.aig.specs.Values.{bit, value_by, vertex_value, value}
use Rattle.aig.specs.Invariant.{ReadsEarlier}
use Rattle.aig.specs.declared.vertex.Vertex.{Vertex}
use Rattle.aig.proofs.Valued.{by_zero, by_input, by_gate, value_obeys, value_only}

mod_even : (x j : ℕ) → x % 2 ^ (j + 1) % 2 ≡ x % 2
mod_even x j = let e : x % 2 ^ (j + 1) ≡ (x / 2 % 2 ^ j) * 2 + x % 2 = mod-pow-add x j 1 in omega arith

digit_low : (j k code : ℕ) → code % 2 ^ (j + 1 + k) / 2 ^ k % 2 ≡ code / 2 ^ k % 2
digit_low j k code = ap (λ (x : ℕ). x % 2) (field_of code (j + 1) k) ∙ mod_even (code / 2 ^ k) j

pub bit_low : (n k code : ℕ) → k < n → bit code k ≡ bit (code % 2 ^ n) k
bit_low n k code h =
    let e : n - k - 1 + 1 + k ≡ n = omega arith in
    ap (λ (x : ℕ). eqb x 1) (sym (subst (λ (m : ℕ). code % 2 ^ m / 2 ^ k % 2 ≡ code / 2 ^ k % 2) e (digit_low (n - k - 1) k code)))

by_low : (n : ℕ) (t : List Vertex) (code : ℕ) (ρ : ℕ → Bool) (v : ℕ) → value_by n t (code % 2 ^ n) ρ v ≡ value_by n t code ρ v
by_low n t code ρ v = elim (cases_lt n v) [
  | inl h ↦ by_gate n t (code % 2 ^ n) ρ v h ∙ sym (by_gate n t code ρ v h)
  | inr h ↦ elim (cases_eq v 0) [
    | inl e ↦ by_zero n t (code % 2 ^ n) ρ v e ∙ sym (by_zero n t code ρ v e)
    | inr e ↦ by_input n t (code % 2 ^ n) ρ v e h ∙ sym (bit_low n (v - 1) code (omega arith)) ∙ sym (by_input n t code ρ v e h)
  ]
]

pub value_low : (n : ℕ) (t : List Vertex) → ReadsEarlier n t → (code v : ℕ) → v < length t → vertex_value n t code v ≡ vertex_value n t (code % 2 ^ n) v
value_low n t early code v h = value_only n t early code (vertex_value n t (code % 2 ^ n))
    (λ x l. value_obeys n t early (code % 2 ^ n) x l ∙ by_low n t code (vertex_value n t (code % 2 ^ n)) x) v h

pub net_low : (n : ℕ) (t : List Vertex) → ReadsEarlier n t → (x : ℕ) → x / 2 < length t → (code : ℕ) → value n t x code ≡ value n t x (code % 2 ^ n)
unfolding value
net_low n t early x h code = ap (flip not (x % 2)) (value_low n t early code (x / 2) h)

-- so two nets that agree under the codes below 2 ^ n agree under each
pub agree_all : (n : ℕ) (t : List Vertex) → ReadsEarlier n t → (x y : ℕ) → x / 2 < length t → y / 2 < length t
    → ((code : ℕ) → code < 2 ^ n → value n t x code ≡ value n t y code) → (code : ℕ) → value n t x code ≡ value n t y code
agree_all n t early x y hx hy f code =
    net_low n t early x hx code ∙ f (code % 2 ^ n) (mod_below code (2 ^ n) (pow_pos n)) ∙ sym (net_low n t early y hy code)
