-- The way down two diagrams that differ, to a code under which they do.
use Rattle.std.proofs.Common.{◌≡◌, ℕ, zero, suc, ◌+◌, ◌-◌, ◌*◌, ◌/◌, ◌%◌, ◌^◌, ◌<◌, ◌≤◌, min, Bool, true, false, not, eqb, ◌⊎◌, List, sym, refl, ap, ◌∙◌, subst, inl, inr, ⊎_elim, arith}
use Rattle.std.proofs.lemmas.Nat.{pow_below, shr_high, mod_low, mod-pow-add, pow-add, field_of}
use Rattle.std.proofs.lemmas.Bool.{cases_eq, cases_Bool}
use Rattle.bdd.specs.declared.store.nodes.Node.{Node}
use Rattle.bdd.specs.Diagram.{eval, top, var_at, node_at, Good, Same}
use Rattle.bdd.specs.Steps.{Cofactor}
use Rattle.bdd.specs.Codes.{assigned, OverInputs, Agrees, Walking}
use Rattle.bdd.proofs.Values.{eval_true, eval_false}
use Rattle.bdd.proofs.Canon.{same_edge}

abbrev bit : ℕ → ℕ → Bool
bit code k = eqb (code / 2 ^ k % 2) 1

mod_even : (x j : ℕ) → x % 2 ^ (j + 1) % 2 ≡ x % 2
mod_even x j = let e : x % 2 ^ (j + 1) ≡ (x / 2 % 2 ^ j) * 2 + x % 2 = mod-pow-add x j 1 in omega arith

digit_low : (j k code : ℕ) → code % 2 ^ (j + 1 + k) / 2 ^ k % 2 ≡ code / 2 ^ k % 2
digit_low j k code = ap (λ (x : ℕ). x % 2) (field_of code (j + 1) k) ∙ mod_even (code / 2 ^ k) j

bit_low : (n k code : ℕ) → k < n → bit code k ≡ bit (code % 2 ^ n) k
bit_low n k code h =
    let e : n - k - 1 + 1 + k ≡ n = omega arith in
    ap (λ (x : ℕ). eqb x 1) (sym (subst (λ (m : ℕ). code % 2 ^ m / 2 ^ k % 2 ≡ code / 2 ^ k % 2) e (digit_low (n - k - 1) k code)))

abbrev Over : ℕ → List Node → ℕ → Type 0
Over n ns j = (i : ℕ) → i < j → (0 < (node_at ns i).var) × ((node_at ns i).var ≤ n)

var_some : (n : ℕ) (ns : List Node) (k j : ℕ) → Over n ns k → j ≤ k → 1 ≤ var_at ns j
var_some n ns k zero over h = omega arith
var_some n ns k (suc i) over h = let o = (over i (omega arith)).0 in omega arith

var_few : (n : ℕ) (ns : List Node) (k j : ℕ) → Over n ns k → j ≤ k → (j ≡ 0 → ⊥) → var_at ns j ≤ n
var_few n ns k zero over h z = absurd (z refl)
var_few n ns k (suc i) over h z = (over i (omega arith)).1

pow_le : (i j : ℕ) → i ≤ j → 2 ^ i ≤ 2 ^ j
pow_le i j h = elim (cases_eq i j) [
  | inl e ↦ (let q = ap (λ (k : ℕ). 2 ^ k) e in omega arith)
  | inr e ↦ (let q = pow_below i j (omega arith) in omega arith)
]

double : (k : ℕ) → 0 < k → 2 ^ k ≡ 2 * 2 ^ (k - 1)
double k h =
    let p : 2 ^ (1 + (k - 1)) ≡ 2 ^ 1 * 2 ^ (k - 1) = pow-add 2 1 (k - 1) in
    let e : 1 + (k - 1) ≡ k = omega arith in
    sym (ap (λ (j : ℕ). 2 ^ j) e) ∙ p ∙ omega arith

module _ {n : ℕ} {ns : List Node} {first second e f code : ℕ} (good : Good ns) (over_e : OverInputs n ns first) (over_f : OverInputs n ns second) (w : Walking n ns first second e f code)
    (v : ℕ) (is : v ≡ min (top ns e) (top ns f)) (one : (e / 2 ≡ 0 → ⊥) ⊎ (f / 2 ≡ 0 → ⊥)) where
  pub first_few : v ≤ n
  first_few = elim one [
    | inl z ↦ (let q = var_few n ns (first / 2) (e / 2) over_e w.e_back z in omega arith)
    | inr z ↦ (let q = var_few n ns (second / 2) (f / 2) over_f w.f_back z in omega arith)
  ]

  pub first_next : w.next ≤ v
  first_next = let a = w.e_later in let b = w.f_later in omega arith

  pub code_low : code < 2 ^ (v - 1)
  code_low = let l = first_next in let s = w.some in let p = pow_le (w.next - 1) (v - 1) (omega arith) in let q = w.small in omega arith

  high_at : assigned (code + 2 ^ (v - 1)) v ≡ true
  high_at =
      let p : code + 2 ^ (v - 1) ≡ 1 * 2 ^ (v - 1) + code = omega arith in
      ap (λ (x : ℕ). eqb (x % 2) 1) (ap (λ (x : ℕ). x / 2 ^ (v - 1)) p ∙ shr_high 1 (v - 1) code code_low)

  high_below : (u : ℕ) → 0 < u → u < w.next → assigned (code + 2 ^ (v - 1)) u ≡ assigned code u
  high_below u pos lt =
      let l = first_next in
      let p : code + 2 ^ (v - 1) ≡ 1 * 2 ^ (v - 1) + code = omega arith in
      bit_low (v - 1) (u - 1) (code + 2 ^ (v - 1)) (omega arith)
      ∙ ap (λ (x : ℕ). bit x (u - 1)) (ap (λ (x : ℕ). x % 2 ^ (v - 1)) p ∙ mod_low 1 (v - 1) code code_low)

  low_at : assigned code v ≡ false
  low_at =
      let p : code ≡ 0 * 2 ^ (v - 1) + code = omega arith in
      ap (λ (x : ℕ). eqb (x % 2) 1) (ap (λ (x : ℕ). x / 2 ^ (v - 1)) p ∙ shr_high 0 (v - 1) code code_low)

  pub walk_high : (r s : ℕ) → Cofactor ns e v true r → Cofactor ns f v true s → (r ≡ s → ⊥) → Walking n ns first second r s (code + 2 ^ (v - 1))
  walk_high r s cr cs ne =
      let l = first_next in
      let some = w.some in
      let few = first_few in
      let low = code_low in
      let up : v + 1 - 1 ≡ v = omega arith in
      let d = double v (omega arith) in
      let at : (ρ : ℕ → Bool) → Agrees (code + 2 ^ (v - 1)) (v + 1) ρ → ρ v ≡ true = λ ρ a. a v (omega arith) (omega arith) ∙ high_at in
      let old : (ρ : ℕ → Bool) → Agrees (code + 2 ^ (v - 1)) (v + 1) ρ → Agrees code w.next ρ = λ ρ a u pos lt. a u pos (omega arith) ∙ high_below u pos lt in
      let later = cr.later in
      let later' = cs.later in
      record {
        next = v + 1;
        some = omega arith;
        few = omega arith;
        e_inside = cr.inside;
        f_inside = cs.inside;
        e_back = omega (arith, cr.no_deeper, w.e_back);
        f_back = omega (arith, cs.no_deeper, w.f_back);
        e_later = omega arith;
        f_later = omega arith;
        small = subst (λ (k : ℕ). code + 2 ^ (v - 1) < 2 ^ k) (sym up) (omega arith);
        apart = ne;
        e_is = λ ρ a. cr.value_is ρ (at ρ a) ∙ w.e_is ρ (old ρ a);
        f_is = λ ρ a. cs.value_is ρ (at ρ a) ∙ w.f_is ρ (old ρ a);
      }

  pub walk_low : (r₁ s₁ r s : ℕ) → Cofactor ns e v true r₁ → Cofactor ns f v true s₁ → r₁ ≡ s₁ → Cofactor ns e v false r → Cofactor ns f v false s → Walking n ns first second r s code
  walk_low r₁ s₁ r s cr₁ cs₁ eq cr cs =
      let l = first_next in
      let some = w.some in
      let few = first_few in
      let low = code_low in
      let up : v + 1 - 1 ≡ v = omega arith in
      let d = double v (omega arith) in
      let at : (ρ : ℕ → Bool) → Agrees code (v + 1) ρ → ρ v ≡ false = λ ρ a. a v (omega arith) (omega arith) ∙ low_at in
      let old : (ρ : ℕ → Bool) → Agrees code (v + 1) ρ → Agrees code w.next ρ = λ ρ a u pos lt. a u pos (omega arith) in
      let later = cr.later in
      let later' = cs.later in
      let same : r ≡ s → Same ns e ns f = λ z ρ. ⊎_elim
      (λ t. sym (cr₁.value_is ρ t) ∙ ap (eval ns ρ) eq ∙ cs₁.value_is ρ t)
      (λ t. sym (cr.value_is ρ t) ∙ ap (eval ns ρ) z ∙ cs.value_is ρ t)
      (cases_Bool (ρ v)) in
      record {
        next = v + 1;
        some = omega arith;
        few = omega arith;
        e_inside = cr.inside;
        f_inside = cs.inside;
        e_back = omega (arith, cr.no_deeper, w.e_back);
        f_back = omega (arith, cs.no_deeper, w.f_back);
        e_later = omega arith;
        f_later = omega arith;
        small = subst (λ (k : ℕ). code < 2 ^ k) (sym up) (omega arith);
        apart = λ z. w.apart (same_edge ns e f good w.e_inside w.f_inside (same z));
        e_is = λ ρ a. cr.value_is ρ (at ρ a) ∙ w.e_is ρ (old ρ a);
        f_is = λ ρ a. cs.value_is ρ (at ρ a) ∙ w.f_is ρ (old ρ a);
      }

apart_ends : (ns : List Node) (ρ : ℕ → Bool) (e f : ℕ) → e / 2 ≡ 0 → f / 2 ≡ 0 → (e ≡ f → ⊥) → eval ns ρ e ≡ not (eval ns ρ f)
apart_ends ns ρ e f ez fz ne = elim (cases_eq e 0) [
  | inl z ↦ (let o : f ≡ 1 = omega (arith, fz, ap (λ (k : ℕ). k) z, other f (λ y. ne (z ∙ sym y)) fz) in
      ap (eval ns ρ) z ∙ eval_false ns ρ ∙ sym (ap not (ap (eval ns ρ) o ∙ eval_true ns ρ)))
  | inr z ↦ (let o : e ≡ 1 = other e z ez in
      let q : f ≡ 0 = elim (cases_eq f 0) [ inl y ↦ y | inr y ↦ absurd (ne (o ∙ sym (other f y fz))) ] in
      ap (eval ns ρ) o ∙ eval_true ns ρ ∙ sym (ap not (ap (eval ns ρ) q ∙ eval_false ns ρ)))
]
  where
    other : (x : ℕ) → (x ≡ 0 → ⊥) → x / 2 ≡ 0 → x ≡ 1
    other x a b = omega arith

pub walk_end : (n : ℕ) (ns : List Node) (first second e f code : ℕ) → Walking n ns first second e f code → e / 2 ≡ 0 → f / 2 ≡ 0
    → (code < 2 ^ n) × (eval ns (assigned code) first ≡ not (eval ns (assigned code) second))
walk_end n ns first second e f code w ez fz =
    let some = w.some in
    let few = w.few in
    let small = w.small in
    let p = pow_le (w.next - 1) n (omega arith) in (
      omega arith,
      sym (w.e_is (assigned code) (λ u a b. refl)) ∙ apart_ends ns (assigned code) e f ez fz w.apart ∙ ap not (w.f_is (assigned code) (λ u a b. refl)),
    )
