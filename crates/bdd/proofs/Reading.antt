-- A function depends on the variables of its diagram's nodes, and on no other.
use Rattle.std.proofs.Common.{◌≡◌, ℕ, zero, suc, ◌+◌, ◌*◌, ◌/◌, ◌<◌, ◌≤◌, Bool, true, false, cond, ltb, List, length, sym, refl, ap, ◌∙◌, subst, ⊎_elim, arith}
use mathlib.Core.Path.{fun_ext}
use Rattle.std.proofs.lemmas.Bool.{cases_eq, le-ltb}
use Rattle.bdd.specs.declared.store.nodes.Node.{Node}
use Rattle.bdd.specs.Diagram.{child, node_at, turned, inverted, value, eval, Good}
use Rattle.bdd.specs.Parts.{fixed, PartOf}
use Rattle.bdd.specs.Marking.{Marked, Marks}
use Rattle.bdd.specs.Reading.{Ignores, Topmost}
use Rattle.bdd.proofs.Leasts.{NoneAbove, Least}
use Rattle.bdd.proofs.Values.{branch_like, eval_child, turned_even}
use Rattle.bdd.proofs.Canon.{upd, upd_at, upd_other, eval_upd, branch_at, same_edge}

-- fixing the inputs before w, and then w itself
fixed_own : (σ ρ : ℕ → Bool) (w : ℕ) (b : Bool) (u : ℕ) → fixed σ w (upd ρ w b) u ≡ upd (fixed σ w ρ) w b u
fixed_own σ ρ w b u = ⊎_elim
    (λ e.
    ap (λ t. cond t (σ u) (upd ρ w b u)) (le-ltb u w (omega arith)) ∙ ap (upd ρ w b) e ∙ upd_at ρ w b
    ∙ sym (ap (upd (fixed σ w ρ) w b) e ∙ upd_at (fixed σ w ρ) w b))
    (λ ne. ap (λ y. cond (ltb u w) (σ u) y) (upd_other ρ w b u ne) ∙ sym (upd_other (fixed σ w ρ) w b u ne))
    (cases_eq u w)

-- a function depends on the variable of each of its parts
pub part_depends : (ns : List Node) (φ : (ℕ → Bool) → Bool) (i : ℕ) → Good ns → i < length ns → PartOf ns φ i → Ignores φ (node_at ns i).var → ⊥
part_depends ns φ i good h p ignores =
    let n : Node = node_at ns i in
    let w : ℕ = n.var in
    let fits = good.fits i h in
    let hb = fits.high_back in
    let lb = fits.low_back in
    let half : 2 * (i + 1) / 2 ≡ suc i = omega arith in
    let even : (b : Bool) → turned (inverted (2 * (i + 1))) b ≡ b = λ b. turned_even (2 * (i + 1)) b (omega arith) in
    let at : (ρ : ℕ → Bool) (b : Bool) → eval ns (upd ρ w b) (2 * (i + 1)) ≡ eval ns (upd ρ w b) (child n b) = λ ρ b.
    eval_child ns (upd ρ w b) (2 * (i + 1)) i b good half h (upd_at ρ w b) ∙ even (eval ns (upd ρ w b) (child n b)) in
    let free : (ρ : ℕ → Bool) (b : Bool) → φ (fixed p.at w (upd ρ w b)) ≡ φ (fixed p.at w ρ) = λ ρ b.
    ap φ (fun_ext (fixed_own p.at ρ w b)) ∙ ignores (fixed p.at w ρ) b in
    fits.differ (same_edge ns n.high n.low good (omega arith) (omega arith) (λ ρ.
    sym (at ρ true ∙ eval_upd ns ρ w true n.high good (omega arith) fits.high_later)
    ∙ p.value_is (upd ρ w true) ∙ ap (turned p.turn) (free ρ true ∙ sym (free ρ false)) ∙ sym (p.value_is (upd ρ w false))
    ∙ at ρ false ∙ eval_upd ns ρ w false n.low good (omega arith) fits.low_later))

module _ (ns : List Node) (e n : ℕ) (m : ℕ → Bool) (good : Good ns) (inside : n ≤ length ns) (marks : Marks ns e n 0 m) where
  value_marked : (ρ ρ' : ℕ → Bool) → ((i : ℕ) → i < n → m i ≡ true → ρ (node_at ns i).var ≡ ρ' (node_at ns i).var) → (k j : ℕ) → j ≤ n → Marked m j → value k ns ρ j ≡ value k ns ρ' j
  unfolding value
  value_marked ρ ρ' agree zero j h mk = refl
  value_marked ρ ρ' agree (suc k) zero h mk = refl
  value_marked ρ ρ' agree (suc k) (suc i) h mk =
      let c : Node = node_at ns i in
      let f = good.fits i (omega arith) in
      let hb = f.high_back in
      let lb = f.low_back in
      let closed = marks.closed i (omega arith) h mk in
      branch_at ρ ρ' (value k ns ρ) c (agree i h mk)
      ∙ branch_like ρ' (value k ns ρ) (value k ns ρ') c
      (value_marked ρ ρ' agree k (c.high / 2) (omega arith) closed.0)
      (value_marked ρ ρ' agree k (c.low / 2) (omega arith) closed.1)

  -- a variable of no marked node makes no difference
  pub ignored : (u : ℕ) → e / 2 ≤ n → ((i : ℕ) → i < n → m i ≡ true → (node_at ns i).var ≡ u → ⊥) → Ignores (λ ρ. eval ns ρ e) u
  unfolding eval
  ignored u in-n none ρ b = ap (turned (inverted e))
      (value_marked (upd ρ u b) ρ (λ i h mk. upd_other ρ u b (node_at ns i).var (none i h mk)) (e / 2) (e / 2) in-n marks.root)

  pub topmost_none : (bound : ℕ) → e / 2 ≤ n → NoneAbove ns m n bound → (u : ℕ) → bound < u → Ignores (λ ρ. eval ns ρ e) u
  topmost_none bound in-n none u above = ignored u in-n (λ i h mk is. none i h mk (omega arith))

  pub topmost_some : (bound r : ℕ) → e / 2 ≤ n → Least ns m n bound r → Topmost (λ ρ. eval ns ρ e) bound r
  topmost_some bound r in-n l =
      let k : ℕ = l.place in
      let kn = l.inside in
      let in_ns : k < length ns = omega arith in
      record {
        above = l.above;
        bounded = omega (arith, l.var_is, (good.fits k in_ns).bounded);
        depends = subst (λ v. Ignores (λ ρ. eval ns ρ e) v → ⊥) l.var_is (part_depends ns (λ ρ. eval ns ρ e) k good in_ns (marks.part k kn l.marked));
        least = λ u above below. ignored u in-n (λ i h mk is. let le = l.least i h mk (omega arith) in omega arith);
      }
