-- Joining two nets that agree under every code: which merge that is, and that they then have one survivor.
use Rattle.std.proofs.Common.{◌≡◌, ℕ, suc, ◌+◌, ◌-◌, ◌/◌, ◌%◌, ◌^◌, ◌<◌, ◌≤◌, min, Bool, true, false, not, eqb, List, length, sym, refl, ap, ◌∙◌, subst, inl, inr, pow-suc, arith, pow-add}
use native.Mathlib.Nat.{zero-div}
use Rattle.std.proofs.lemmas.Nat.{shl-shr}
use Rattle.std.proofs.lemmas.Bool.{cases_eq, cases_lt, both_ways}
use Rattle.aig.specs.Pairs.{Ordered}
use Rattle.aig.specs.declared.vertex.Vertex.{Vertex}
use Rattle.aig.specs.Nets.{carried, inverse, flip, net_value}
use Rattle.aig.specs.Table.{link_of, survivor_of, Stands}
use Rattle.aig.specs.Values.{bit, vertex_value, value}
use Rattle.aig.specs.Algebras.{booleans}
use Rattle.aig.specs.Invariant.{Whole, ReadsEarlier}
use Rattle.aig.specs.Merges.{Mergeable, AfterMerge, Joinable, Joined, later}
use Rattle.aig.proofs.Nets.{bit_cases, half_carried, value_carried, flip_twice}
use Rattle.aig.proofs.Orders.{sorted, either, of_both}
use Rattle.aig.proofs.Merging.{carried_carried, carried_own}
use Rattle.aig.proofs.Rehashing.{survivor_stands, survivor_low, survivor_value}
use Rattle.aig.proofs.Valued.{by_zero, by_input, value_obeys}
use Rattle.aig.proofs.Making.{value_inverse}
use Rattle.aig.proofs.Wholes.{shape_of, respects_of}

-- ---- inputs differ from each other and from the constant

bit_zero : (k : ℕ) → bit 0 k ≡ false
bit_zero k = ap (λ (x : ℕ). eqb (x % 2) 1) (zero-div (2 ^ k))

bit_own : (k : ℕ) → bit (2 ^ k) k ≡ true
bit_own k =
    let e : 2 ^ k / 2 ^ k ≡ 1 = ap (λ (x : ℕ). x / 2 ^ k) (omega arith) ∙ shl-shr 1 k in
    ap (λ (x : ℕ). eqb (x % 2) 1) e

bit_below : (j d : ℕ) → bit (2 ^ (suc d + j)) j ≡ false
bit_below j d =
    let e : 2 ^ (suc d + j) / 2 ^ j ≡ 2 ^ suc d = ap (λ (x : ℕ). x / 2 ^ j) (pow-add 2 (suc d) j) ∙ shl-shr (2 ^ suc d) j in
    let f : 2 ^ suc d % 2 ≡ 0 = omega (arith, pow-suc 2 d) in
    ap (λ (x : ℕ). eqb (x % 2) 1) e ∙ ap (λ (x : ℕ). eqb x 1) f

bit_other : (j k : ℕ) → j < k → bit (2 ^ k) j ≡ false
bit_other j k h =
    let e : suc (k - j - 1) + j ≡ k = omega arith in
    subst (λ (x : ℕ). bit (2 ^ x) j ≡ false) e (bit_below j (k - j - 1))

module _ (n : ℕ) (t : List Vertex) (early : ReadsEarlier n t) where
  input_value : (code v : ℕ) → (v ≡ 0 → ⊥) → v ≤ n → v < length t → vertex_value n t code v ≡ bit code (v - 1)
  input_value code v z h l = value_obeys n t early code v l ∙ by_input n t code (vertex_value n t code) v z h

  earlier_false : (code u : ℕ) → u ≤ n → u < length t → ((u ≡ 0 → ⊥) → bit code (u - 1) ≡ false) → vertex_value n t code u ≡ false
  earlier_false code u h l f = elim (cases_eq u 0) [
    | inl z ↦ value_obeys n t early code u l ∙ by_zero n t code (vertex_value n t code) u z
    | inr z ↦ input_value code u z h l ∙ f z
  ]

carried_back : (a b : ℕ) → carried (carried a b) b ≡ a
carried_back a b = let h = half_carried a b in elim (bit_cases a) [
  | inl p ↦ elim (bit_cases b) [ inl q ↦ omega arith | inr q ↦ omega arith ]
  | inr p ↦ elim (bit_cases b) [ inl q ↦ omega arith | inr q ↦ omega arith ]
]

flips_apart : (x : ℕ) → flip not (x % 2) true ≡ flip not (x % 2) false → ⊥
flips_apart x e =
    let f : true ≡ false = sym (flip_twice booleans x true) ∙ ap (flip not (x % 2)) e ∙ flip_twice booleans x false in
    both_ways true f refl

-- ---- the merge that joins two nets

module _ {n : ℕ} {t : List Vertex} (w : Whole n t) {x y : ℕ} (j : Joinable n t x y) {a b : ℕ} (o : Ordered (survivor_of t x) (survivor_of t y) a b) where
  within : (z : ℕ) → z / 2 < length t → survivor_of t z / 2 < length t
  within z h = omega (arith, survivor_low (shape_of w) z h)

  inside : (a / 2 < length t) × (b / 2 < length t)
  inside = of_both o (λ z. z / 2 < length t) (within x j.first) (within y j.second)

  stand : Stands t (a / 2) × Stands t (b / 2)
  stand = of_both o (λ z. Stands t (z / 2)) (survivor_stands (shape_of w) x j.first) (survivor_stands (shape_of w) y j.second)

  survivor_is : (z : ℕ) → z / 2 < length t → (code : ℕ) → value n t (survivor_of t z) code ≡ value n t z code
  unfolding value
  survivor_is z h code = survivor_value booleans (vertex_value n t code) (respects_of w code) z h

  agree : (code : ℕ) → value n t a code ≡ value n t b code
  agree code =
      let s : value n t (survivor_of t x) code ≡ value n t (survivor_of t y) code = survivor_is x j.first code ∙ j.agree code ∙ sym (survivor_is y j.second code) in
      elim (either o) [
        | inl e ↦ ap (λ (z : ℕ). value n t z code) e.0 ∙ s ∙ ap (λ (z : ℕ). value n t z code) (sym e.1)
        | inr e ↦ ap (λ (z : ℕ). value n t z code) e.0 ∙ sym s ∙ ap (λ (z : ℕ). value n t z code) (sym e.1)
      ]

  not_apart : (v : Bool) → v ≡ not v → ⊥
  not_apart true e = both_ways true e refl
  not_apart false e = both_ways false refl e

  module _ (differ : a ≡ b → ⊥) where
    apart : survivor_of t x ≡ survivor_of t y → ⊥
    apart e = differ (elim (either o) [ inl f ↦ f.0 ∙ e ∙ sym f.1 | inr f ↦ f.0 ∙ sym e ∙ sym f.1 ])

    before : a / 2 < b / 2
    before = elim (cases_lt (a / 2) (b / 2)) [
      | inl h ↦ h
      | inr h ↦ (let s = sorted o in let ne = differ in let e : b ≡ inverse a = omega arith in
          absurd (not_apart (value n t a 0) (agree 0 ∙ ap (λ (z : ℕ). value n t z 0) e ∙ value_inverse n t a 0)))
    ]

    after_inputs : n < b / 2
    unfolding value
    after_inputs = elim (cases_lt n (b / 2)) [
      | inl h ↦ h
      | inr h ↦ (let lt = before in
          let z : b / 2 ≡ 0 → ⊥ = λ e. omega arith in
          let k : ℕ = b / 2 - 1 in
          let one : vertex_value n t (2 ^ k) (b / 2) ≡ true = input_value n t w.earlier (2 ^ k) (b / 2) z h inside.1 ∙ bit_own k in
          let nil : vertex_value n t 0 (b / 2) ≡ false = input_value n t w.earlier 0 (b / 2) z h inside.1 ∙ bit_zero k in
          let low_one : vertex_value n t (2 ^ k) (a / 2) ≡ false = earlier_false n t w.earlier (2 ^ k) (a / 2) (omega arith) inside.0 (λ e. bit_other (a / 2 - 1) k (omega arith)) in
          let low_nil : vertex_value n t 0 (a / 2) ≡ false = earlier_false n t w.earlier 0 (a / 2) (omega arith) inside.0 (λ e. bit_zero (a / 2 - 1)) in
          absurd (flips_apart b (ap (flip not (b % 2)) (sym one) ∙ sym (agree (2 ^ k)) ∙ ap (flip not (a % 2)) (low_one ∙ sym low_nil) ∙ agree 0 ∙ ap (flip not (b % 2)) nil)))
    ]

    pub joins_by : (keep gone : ℕ) → keep ≡ carried a b → gone ≡ b / 2 → Mergeable n t keep gone
    unfolding value
    joins_by keep gone ek eg =
        let half : keep / 2 ≡ a / 2 = ap (λ (z : ℕ). z / 2) ek ∙ half_carried a b in
        record {
          gate = omega (arith, after_inputs);
          inside = omega (arith, inside.1);
          before = omega (arith, before);
          stands = subst (λ (v : ℕ). Stands t v) (sym eg) stand.1;
          onto = subst (λ (v : ℕ). Stands t v) (sym half) stand.0;
          equal = λ code. ap (net_value (vertex_value n t code)) ek ∙ sym (value_carried booleans (vertex_value n t code) a b)
              ∙ ap (flip not (b % 2)) (agree code) ∙ flip_twice booleans b (vertex_value n t code (b / 2)) ∙ ap (vertex_value n t code) (sym eg);
        }

    -- ---- and what it gives

    module _ {u : List Vertex} {keep gone : ℕ} (ek : keep ≡ carried a b) (eg : gone ≡ b / 2) (m : AfterMerge n t keep gone u) where
      through : (z : ℕ) → z / 2 < length t → survivor_of u z ≡ survivor_of u (survivor_of t z)
      through z h =
          let l : ℕ = link_of t (z / 2) in
          ap (λ (k : ℕ). carried k z) (m.composed (z / 2) h)
          ∙ sym (carried_carried (link_of u (l / 2)) l z)
          ∙ ap (λ (k : ℕ). carried (link_of u k) (carried l z)) (sym (half_carried l z))

      first_is : survivor_of u a ≡ a
      first_is =
          let lt = before in
          ap (λ (v : Vertex). carried v.link.0 a) (m.before (a / 2) (omega arith)) ∙ sym (carried_own a (link_of t (a / 2)) stand.0)

      second_is : survivor_of u b ≡ a
      second_is = ap (λ (v : ℕ). carried (link_of u v) b) (sym eg) ∙ ap (λ (k : ℕ). carried k b) (m.linked ∙ ek) ∙ carried_back a b

      one : survivor_of u x ≡ survivor_of u y
      one = through x j.first ∙ elim (either o) [
        | inl e ↦ ap (survivor_of u) (sym e.0) ∙ first_is ∙ sym second_is ∙ ap (survivor_of u) e.1
        | inr e ↦ ap (survivor_of u) (sym e.1) ∙ second_is ∙ sym first_is ∙ ap (survivor_of u) e.0
      ] ∙ sym (through y j.second)

      pub joined_by : Joined n t x y u
      joined_by = record {
        one = one;
        already = λ e. absurd (apart e);
        merged = λ _. subst (λ (k : ℕ). AfterMerge n t k (later (survivor_of t x) (survivor_of t y)) u)
            (ek ∙ ap (λ (k : ℕ). carried k b) o.low ∙ ap (carried (min (survivor_of t x) (survivor_of t y))) o.high)
            (subst (λ (k : ℕ). AfterMerge n t keep k u) (eg ∙ ap (λ (k : ℕ). k / 2) o.high) m);
      }
