-- A conjunction is made of those of the cofactors; new nodes, also the one that is wanting, are parts of it.
use Rattle.std.proofs.Common.{◌≡◌, ℕ, ◌≤◌, min, ◌⊎◌, List, length, vec_items, sym, ◌∙◌, subst, ap₂, inl, inr, ⊎_elim}
use Rattle.bdd.specs.declared.store.nodes.Node.{Node}
use Rattle.bdd.specs.declared.store.cache.Entry.{Entry}
use Rattle.bdd.specs.declared.store.Table.{Table}
use Rattle.bdd.specs.Diagram.{flip}
use Rattle.bdd.specs.Steps.{Both, Parts, Lacking}
use Rattle.bdd.specs.Caching.{AllRight}
use Rattle.bdd.specs.Contents.{Kept, nodes_of, limit_of}
use Rattle.bdd.proofs.Values.{none_is}
use Rattle.bdd.proofs.Chains.{right_up, all_right_after}
use Rattle.bdd.proofs.Growth.{Split, both_three, lift_high, parts_two, parts_three, lacking_high, lacking_low, lacking_own}
use Rattle.bdd.proofs.Joins.{kept_on, both_f, both_g, both_none, later_high, later_low}
use Rattle.bdd.proofs.store.Table.+conjoin.Goals as goal
use Rattle.bdd.proofs.store.Table.+conjoin.Goals.{After-conjoin, After-conjoin-2}
use Rattle.bdd.proofs.store.Table.+conjoin.Goals.{then-f-eq-FALSE-via-then-f-eq-FALSE, then-f-eq-FALSE-via-else-f-eq-FALSE+then-g-eq-FALSE, then-f-eq-FALSE-via-else-f-eq-FALSE+else-g-eq-FALSE+then-f-inverse}

pub returns-then-f-g-clause-cases : goal.returns-then-f-g-clause-cases
returns-then-f-g-clause-cases t c =
    both_f (nodes_of c.args.self.now) c.args.f c.args.g c.requires.f_within (⊎_elim (λ e. inl e) (λ p. inr p.1) c.then-f-g.either)

pub returns-then-f-eq-TRUE-clause-cases : goal.returns-then-f-eq-TRUE-clause-cases
returns-then-f-eq-TRUE-clause-cases t c = both_g (nodes_of c.args.self.now) c.args.f c.args.g c.requires.g_within c.if-f-eq-TRUE.true

pub returns-then-f-eq-FALSE-clause-cases : goal.returns-then-f-eq-FALSE-clause-cases
returns-then-f-eq-FALSE-clause-cases t c =
    let which : (c.args.f ≡ 0) ⊎ ((c.args.g ≡ 0) ⊎ (c.args.f ≡ flip c.args.g)) = elim c.then-f-eq-FALSE.branch [
      | then-f-eq-FALSE-via-then-f-eq-FALSE w ↦ inl w.if-f-eq-FALSE.true
      | then-f-eq-FALSE-via-else-f-eq-FALSE+then-g-eq-FALSE w ↦ inr (inl w.if-g-eq-FALSE.true)
      | then-f-eq-FALSE-via-else-f-eq-FALSE+else-g-eq-FALSE+then-f-inverse w ↦ inr (inr (w.if-f-inverse.true ∙ w.inverse.ensures.value))
    ] in
    both_none (nodes_of c.args.self.now) c.args.f c.args.g c.args.self.now.set.good c.requires.f_within which

-- the two edges and their cofactors
split : (t : ℕ) (c : After-conjoin t) → Split (nodes_of c.args.self.now) (nodes_of c.conjoin.new.self) c.args.f c.args.g c.min-v.result c.cofactor-f_high.result c.cofactor-g_high.result c.cofactor-f_low.result c.cofactor-g_low.result
split t c = record {
  good = c.args.self.now.set.good;
  good₁ = c.conjoin.new.self.set.good;
  grown = c.conjoin.ensures.kept.grown;
  f_in = c.requires.f_within;
  g_in = c.requires.g_within;
  vis = c.min-v.ensures ∙ ap₂ min c.top.ensures c.top-2.ensures;
  cfh = c.cofactor-f_high.ensures;
  cgh = c.cofactor-g_high.ensures;
  cfl = c.cofactor-f_low.ensures;
  cgl = c.cofactor-g_low.ensures;
}

-- the nodes after both conjunctions
two : (t : ℕ) (c : After-conjoin-2 t) → Kept c.args.self.now c.conjoin-2.new.self
two t c = kept_on c.args.self.now c.conjoin.new.self c.conjoin-2.new.self c.conjoin.ensures.kept c.conjoin-2.ensures.kept

pub returns-in_err-high-clause-parts : goal.returns-in_err-high-clause-parts
returns-in_err-high-clause-parts t c = lift_high (split t (goal.at.returns-in_err-high-clause-parts t c).After-conjoin) (nodes_of c.conjoin.new.self) c.conjoin.ensures.parts

pub returns-in_err-high-clause-cases : goal.returns-in_err-high-clause-cases
returns-in_err-high-clause-cases t c =
    let ns : List Node = nodes_of c.args.self.now in
    let u : Table = c.conjoin.new.self in
    let cases = c.in_err-high.ensures.cases in
    none_is c.from_residual.result ((limit_of u ≤ length (nodes_of u)) × Lacking ns (nodes_of u) c.args.f c.args.g) (Both ns (nodes_of u) c.args.f c.args.g) c.from_residual.ensures
    (cases.0, lacking_high (split t (goal.at.returns-in_err-high-clause-cases t c).After-conjoin) cases.1)

pub returns-in_err-low-clause-kept : goal.returns-in_err-low-clause-kept
returns-in_err-low-clause-kept t c = two t (goal.at.returns-in_err-low-clause-kept t c).After-conjoin-2

pub returns-in_err-low-clause-parts : goal.returns-in_err-low-clause-parts
returns-in_err-low-clause-parts t c =
    parts_two (split t (goal.at.returns-in_err-low-clause-parts t c).After-conjoin) (nodes_of c.conjoin-2.new.self) c.conjoin-2.ensures.kept.grown c.conjoin.ensures.parts c.conjoin-2.ensures.parts

pub returns-in_err-low-clause-cases : goal.returns-in_err-low-clause-cases
returns-in_err-low-clause-cases t c =
    let ns : List Node = nodes_of c.args.self.now in
    let u : Table = c.conjoin-2.new.self in
    let cases = c.in_err-low.ensures.cases in
    none_is c.from_residual-in_err-low.result ((limit_of u ≤ length (nodes_of u)) × Lacking ns (nodes_of u) c.args.f c.args.g) (Both ns (nodes_of u) c.args.f c.args.g) c.from_residual-in_err-low.ensures
    (cases.0, lacking_low (split t (goal.at.returns-in_err-low-clause-cases t c).After-conjoin) (nodes_of u) c.conjoin-2.ensures.kept.grown c.conjoin.ensures.parts cases.1)

pub mk-requires-clause-high_later : goal.mk-requires-clause-high_later
mk-requires-clause-high_later t c =
    later_high (nodes_of c.args.self.now) (nodes_of c.conjoin.new.self) (nodes_of c.conjoin-2.new.self) c.min-v.result c.cofactor-f_high.result c.cofactor-g_high.result c.in_ok-high.high
    c.conjoin-2.ensures.kept.grown c.cofactor-f_high.ensures.later c.cofactor-g_high.ensures.later c.in_ok-high.ensures.cases

pub mk-requires-clause-low_later : goal.mk-requires-clause-low_later
mk-requires-clause-low_later t c =
    later_low (nodes_of c.args.self.now) (nodes_of c.conjoin.new.self) (nodes_of c.conjoin-2.new.self) c.min-v.result c.cofactor-f_low.result c.cofactor-g_low.result c.in_ok-low.low
    c.conjoin.ensures.kept.grown c.cofactor-f_low.ensures.inside c.cofactor-g_low.ensures.inside c.cofactor-f_low.ensures.later c.cofactor-g_low.ensures.later c.in_ok-low.ensures.cases

pub returns-in_err-result-clause-kept : goal.returns-in_err-result-clause-kept
returns-in_err-result-clause-kept t c =
    kept_on c.args.self.now c.conjoin-2.new.self c.mk.new.self (two t (goal.at.returns-in_err-result-clause-kept t c).After-conjoin-2) c.mk.ensures.kept

pub returns-in_err-result-clause-parts : goal.returns-in_err-result-clause-parts
returns-in_err-result-clause-parts t c =
    let full : c.mk.new.self ≡ c.conjoin-2.new.self = c.in_err-result.ensures.cases.0.1 in
    subst (λ u. Parts (nodes_of c.args.self.now) (nodes_of u) c.args.f c.args.g) (sym full)
    (parts_two (split t (goal.at.returns-in_err-result-clause-parts t c).After-conjoin) (nodes_of c.conjoin-2.new.self) c.conjoin-2.ensures.kept.grown c.conjoin.ensures.parts c.conjoin-2.ensures.parts)

pub returns-in_err-result-clause-cases : goal.returns-in_err-result-clause-cases
returns-in_err-result-clause-cases t c =
    let ns : List Node = nodes_of c.args.self.now in
    let u : Table = c.conjoin-2.new.self in
    let w : Table = c.mk.new.self in
    let cases = c.in_err-result.ensures.cases in
    let full : w ≡ u = cases.0.1 in
    none_is c.from_residual-in_err-result.result ((limit_of w ≤ length (nodes_of w)) × Lacking ns (nodes_of w) c.args.f c.args.g) (Both ns (nodes_of w) c.args.f c.args.g) c.from_residual-in_err-result.ensures
    (subst (λ x. (limit_of x ≤ length (nodes_of x)) × Lacking ns (nodes_of x) c.args.f c.args.g) (sym full) (
      cases.0.0,
      lacking_own (split t (goal.at.returns-in_err-result-clause-cases t c).After-conjoin) (nodes_of u) c.in_ok-high.high c.in_ok-low.low u.set.good c.conjoin-2.ensures.kept.grown
          c.conjoin.ensures.parts c.conjoin-2.ensures.parts c.in_ok-high.ensures.cases c.in_ok-low.ensures.cases cases.1,
    ))

pub invariant_of-self-clause-cached : goal.invariant_of-self-clause-cached
invariant_of-self-clause-cached t c =
    let ns : List Node = nodes_of c.args.self.now in
    let u : Table = c.mk.new.self in
    let r : ℕ = c.in_ok-result.result in
    let b = goal.at.invariant_of-self-clause-cached t c in
    let kept : Kept c.args.self.now u = kept_on c.args.self.now c.conjoin-2.new.self u (two t b.After-conjoin-2) c.mk.ensures.kept in
    let both : Both ns (nodes_of u) c.args.f c.args.g r =
    both_three (split t b.After-conjoin) (nodes_of c.conjoin-2.new.self) (nodes_of u) c.in_ok-high.high c.in_ok-low.low r c.conjoin-2.ensures.kept.grown c.in_ok-high.ensures.cases c.in_ok-low.ensures.cases c.in_ok-result.ensures.cases in
    let right = right_up ns (nodes_of u) c.args.f c.args.g r c.args.self.now.set.good kept.grown c.requires.f_within c.requires.g_within both in
    let es : List Entry = vec_items c.remember.new.self.entries in
    subst (λ k. AllRight (nodes_of u) es k) (sym c.remember.ensures.stamp) (all_right_after (nodes_of u) (vec_items u.cache.entries) es u.cache.stamp c.args.f c.args.g r c.remember.ensures.known right u.cached)

pub returns : goal.returns
returns t c =
    let b = goal.at.returns t c in
    let d = split t b.After-conjoin in
    let n₂ : List Node = nodes_of c.conjoin-2.new.self in
    let u : Table = c.mk.new.self in
    let h : ℕ = c.in_ok-high.high in
    let l : ℕ = c.in_ok-low.low in
    let r : ℕ = c.in_ok-result.result in
    let bh = c.in_ok-high.ensures.cases in
    let bl = c.in_ok-low.ensures.cases in
    let made = c.in_ok-result.ensures.cases in
    let grown = c.conjoin-2.ensures.kept.grown in
    let kept : Kept c.args.self.now u = kept_on c.args.self.now c.conjoin-2.new.self u (two t b.After-conjoin-2) c.mk.ensures.kept in
    record {
      kept = record { grown = kept.grown; limit_is = kept.limit_is; marks_is = kept.marks_is; images_is = kept.images_is };
      parts = parts_three d n₂ (nodes_of u) h l r c.conjoin-2.new.self.set.good grown c.mk.ensures.kept.grown c.conjoin.ensures.parts c.conjoin-2.ensures.parts bh bl made;
      cases = both_three d n₂ (nodes_of u) h l r grown bh bl made;
    }
