-- Equal functions have equal edges.
use Rattle.std.proofs.Common.{◌≡◌, ℕ, zero, suc, ◌+◌, ◌-◌, ◌/◌, ◌%◌, ◌<◌, ◌≤◌, Bool, true, false, cond, eqb, List, length, sym, refl, ap, ◌∙◌, ⊎_elim, arith}
use Rattle.std.proofs.lemmas.Bool.Decides.{nat_tests}
use Rattle.std.proofs.lemmas.Bool.{cases_order, eq-eqb, ne_eqb}
use Rattle.bdd.specs.declared.store.nodes.Node.{Node}
use Rattle.bdd.specs.Diagram.{node, node_at, turned, inverted, branch, value, eval, var_at, top, Good, Same, turn}
use Rattle.bdd.specs.Steps.{Cofactor}
use Rattle.bdd.proofs.Values.{branch_like, branch_child, turned_even, cofactor_here, cofactor_same, inner}
use Rattle.bdd.proofs.Joins.{var_bound, var_inner}

-- ρ with v set to b
abbrev pub upd : (ℕ → Bool) → ℕ → Bool → ℕ → Bool
upd ρ v b w = cond (eqb w v) b (ρ w)

pub upd_at : (ρ : ℕ → Bool) (v : ℕ) (b : Bool) → upd ρ v b v ≡ b
upd_at ρ v b = ap (λ t. cond t b (ρ v)) (eq-eqb v v refl)

pub upd_other : (ρ : ℕ → Bool) (v : ℕ) (b : Bool) (w : ℕ) → (w ≡ v → ⊥) → upd ρ v b w ≡ ρ w
upd_other ρ v b w h = ap (λ t. cond t b (ρ w)) (ne_eqb w v h)

abbrev pub all : ℕ → Bool
all w = true

-- where every variable is true, a straight edge is false
pub value_all : (ns : List Node) (k j : ℕ) → Good ns → j ≤ length ns → value k ns all j ≡ false
unfolding value
value_all ns zero j good h = refl
value_all ns (suc k) zero good h = refl
value_all ns (suc k) (suc i) good h =
    let n : Node = node_at ns i in
    let f = good.fits i h in
    let hb = f.high_back in
    turned_even n.high (value k ns all (n.high / 2)) f.straight ∙ value_all ns k (n.high / 2) good (omega arith)

turned_false : (b : Bool) → turned b false ≡ b
turned_false true = refl
turned_false false = refl

pub eval_all : (ns : List Node) (e : ℕ) → Good ns → e / 2 ≤ length ns → eval ns all e ≡ inverted e
unfolding eval
eval_all ns e good h = ap (turned (inverted e)) (value_all ns (e / 2) (e / 2) good h) ∙ turned_false (inverted e)

-- a variable before the first is not looked at
pub branch_at : (ρ ρ' f : ℕ → Bool) (n : Node) → ρ n.var ≡ ρ' n.var → branch ρ f n ≡ branch ρ' f n
branch_at ρ ρ' f n h = branch_child ρ f n (ρ' n.var) h ∙ sym (branch_child ρ' f n (ρ' n.var) refl)

pub value_upd : (ns : List Node) (ρ : ℕ → Bool) (v : ℕ) (b : Bool) (k j : ℕ) → Good ns → j ≤ length ns → v < var_at ns j → value k ns (upd ρ v b) j ≡ value k ns ρ j
unfolding value
value_upd ns ρ v b zero j good h lt = refl
value_upd ns ρ v b (suc k) zero good h lt = refl
value_upd ns ρ v b (suc k) (suc i) good h lt =
    let n : Node = node_at ns i in
    let f = good.fits i h in
    let hb = f.high_back in
    let lb = f.low_back in
    let hl = f.high_later in
    let ll = f.low_later in
    branch_at (upd ρ v b) ρ (value k ns (upd ρ v b)) n (upd_other ρ v b n.var (omega arith))
    ∙ branch_like ρ (value k ns (upd ρ v b)) (value k ns ρ) n
    (value_upd ns ρ v b k (n.high / 2) good (omega arith) (omega arith))
    (value_upd ns ρ v b k (n.low / 2) good (omega arith) (omega arith))

pub eval_upd : (ns : List Node) (ρ : ℕ → Bool) (v : ℕ) (b : Bool) (e : ℕ) → Good ns → e / 2 ≤ length ns → v < top ns e → eval ns (upd ρ v b) e ≡ eval ns ρ e
unfolding eval
eval_upd ns ρ v b e good h lt = ap (turned (inverted e)) (value_upd ns ρ v b (e / 2) (e / 2) good h lt)

pub cofactors_same : (ns : List Node) (e f v r s : ℕ) (b : Bool) → Good ns → Cofactor ns e v b r → Cofactor ns f v b s → Same ns e ns f → Same ns r ns s
cofactors_same ns e f v r s b good cr cs same ρ =
    sym (eval_upd ns ρ v b r good cr.inside cr.later)
    ∙ cr.value_is (upd ρ v b) (upd_at ρ v b) ∙ same (upd ρ v b) ∙ sym (cs.value_is (upd ρ v b) (upd_at ρ v b))
    ∙ eval_upd ns ρ v b s good cs.inside cs.later

pub turn_inj : (e f c d : ℕ) → inverted e ≡ inverted f → turn e c ≡ turn f d → c ≡ d
turn_inj e f c d p q = grind (arith, nat_tests)

-- by cases on the first variables
module _ (ns : List Node) (good : Good ns) where
  pub CanonicalBelow : ℕ → Type 0
  CanonicalBelow m = (e f : ℕ) → e / 2 < m → f / 2 < m → e / 2 ≤ length ns → f / 2 ≤ length ns → Same ns e ns f → e ≡ f

  -- e looks at v, and f does not
  one_looks : (m e f v : ℕ) → CanonicalBelow m → e / 2 < suc m → e / 2 ≤ length ns → f / 2 ≤ length ns → top ns e ≡ v → v < top ns f → Same ns e ns f → ⊥
  unfolding CanonicalBelow
  one_looks m e f v ih em inside insidef at lt same =
      let vb = var_bound ns (f / 2) good insidef in
      let is = inner ns (e / 2) v at (omega arith) in
      let i : ℕ = e / 2 - 1 in
      let is0 = is.0 in
      let near : i < length ns = omega arith in
      let n : Node = node_at ns i in
      let ch = cofactor_here ns e v i (turn e n.high) true good is.0 near is.1 refl in
      let cl = cofactor_here ns e v i (turn e n.low) false good is.0 near is.1 refl in
      let cfh = cofactor_same ns f v true insidef (omega arith) (λ h. omega arith) in
      let cfl = cofactor_same ns f v false insidef (omega arith) (λ h. omega arith) in
      let sh = cofactors_same ns e f v (turn e n.high) f true good ch cfh same in
      let sl = cofactors_same ns e f v (turn e n.low) f false good cl cfl same in
      let hd = ch.deeper at in
      let ld = cl.deeper at in
      (good.fits i near).differ (turn_inj e e n.high n.low refl
      (ih (turn e n.high) (turn e n.low) (omega arith) (omega arith) ch.inside cl.inside (λ ρ. sh ρ ∙ sym (sl ρ))))

  both_look : (m e f v : ℕ) → CanonicalBelow m → e / 2 < suc m → f / 2 < suc m → e / 2 ≤ length ns → f / 2 ≤ length ns → top ns e ≡ v → top ns f ≡ v → v < 4096 → inverted e ≡ inverted f → Same ns e ns f → e / 2 ≡ f / 2
  unfolding CanonicalBelow
  both_look m e f v ih em fm inside insidef at atf lt inv same =
      let is = inner ns (e / 2) v at lt in
      let js = inner ns (f / 2) v atf lt in
      let i : ℕ = e / 2 - 1 in
      let j : ℕ = f / 2 - 1 in
      let is0 = is.0 in
      let js0 = js.0 in
      let near : i < length ns = omega arith in
      let nearf : j < length ns = omega arith in
      let n : Node = node_at ns i in
      let o : Node = node_at ns j in
      let ch = cofactor_here ns e v i (turn e n.high) true good is.0 near is.1 refl in
      let cl = cofactor_here ns e v i (turn e n.low) false good is.0 near is.1 refl in
      let dh = cofactor_here ns f v j (turn f o.high) true good js.0 nearf js.1 refl in
      let dl = cofactor_here ns f v j (turn f o.low) false good js.0 nearf js.1 refl in
      let hd = ch.deeper at in
      let ld = cl.deeper at in
      let hd' = dh.deeper atf in
      let ld' = dl.deeper atf in
      let high : n.high ≡ o.high = turn_inj e f n.high o.high inv (ih (turn e n.high) (turn f o.high) (omega arith) (omega arith) ch.inside dh.inside (cofactors_same ns e f v (turn e n.high) (turn f o.high) true good ch dh same)) in
      let low : n.low ≡ o.low = turn_inj e f n.low o.low inv (ih (turn e n.low) (turn f o.low) (omega arith) (omega arith) cl.inside dl.inside (cofactors_same ns e f v (turn e n.low) (turn f o.low) false good cl dl same)) in
      let nodes : n ≡ o = ap (λ x. node x n.high n.low) (is.1 ∙ sym js.1) ∙ ap (λ x. node o.var x n.low) high ∙ ap (λ x. node o.var o.high x) low in
      let ij : i ≡ j = good.apart i j near nearf nodes in
      omega arith

  constants : (e : ℕ) → e / 2 ≤ length ns → 4096 ≤ top ns e → e / 2 ≡ 0
  constants e inside h = ⊎_elim (λ z. z) (⊎_elim (λ lt. absurd (omega arith)) (λ pos. let b = var_inner ns (e / 2) good inside pos in absurd (omega arith))) (cases_order (e / 2) 0)

  inverted_parity : (e f : ℕ) → inverted e ≡ inverted f → e % 2 ≡ f % 2
  inverted_parity e f h = grind (arith, nat_tests)

  pub canonical : (m : ℕ) → CanonicalBelow m
  unfolding CanonicalBelow
  canonical zero e f em fm inside insidef same = absurd (omega arith)
  canonical (suc m) e f em fm inside insidef same =
      let inv : inverted e ≡ inverted f = sym (eval_all ns e good inside) ∙ same all ∙ eval_all ns f good insidef in
      let par = inverted_parity e f inv in
      let eb = var_bound ns (e / 2) good inside in
      let half : e / 2 ≡ f / 2 = ⊎_elim
      (λ eq. ⊎_elim
      (λ top_out. constants e inside (omega arith) ∙ sym (constants f insidef (omega arith)))
      (⊎_elim
      (λ lt. both_look m e f (top ns e) (canonical m) em fm inside insidef refl (sym eq) lt inv same)
      (λ gt. absurd (omega arith)))
      (cases_order (top ns e) 4096))
      (⊎_elim
      (λ lt. absurd (one_looks m e f (top ns e) (canonical m) em inside insidef refl lt same))
      (λ gt. absurd (one_looks m f e (top ns f) (canonical m) fm insidef inside refl gt (λ ρ. sym (same ρ)))))
      (cases_order (top ns e) (top ns f)) in
      omega arith

-- two edges of a good table with the same values are the same edge
pub same_edge : (ns : List Node) (e f : ℕ) → Good ns → e / 2 ≤ length ns → f / 2 ≤ length ns → Same ns e ns f → e ≡ f
unfolding CanonicalBelow
same_edge ns e f good inside insidef same = canonical ns good (suc (e / 2 + f / 2)) e f (omega arith) (omega arith) inside insidef same
