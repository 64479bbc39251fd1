-- Straight or inverted, the node has the function that was asked for.
use Rattle.std.proofs.Common.{ℕ, List, length, sym, subst, arith}
use Rattle.bdd.specs.declared.store.nodes.Node.{Node}
use Rattle.bdd.specs.Diagram.{node, Fits, flip}
use Rattle.bdd.specs.Contents.{Full, nodes_of}
use Rattle.bdd.specs.Steps.{Made, Placed, Short}
use Rattle.bdd.specs.Index.{Lacks}
use Rattle.bdd.proofs.Values.{none_is, cases_map, short_straight, short_flipped, fits_flipped, made_straight, made_flipped, flip_half}
use Rattle.bdd.proofs.store.Table.mk.Goals as goal

pub returns-then-not-is_inverted-clause-cases : goal.returns-then-not-is_inverted-clause-cases
returns-then-not-is_inverted-clause-cases c =
    let t = c.args.self.now in
    let u = c.place.new.self in
    let ns : List Node = nodes_of t in
    let ms : List Node = nodes_of u in
    let n : Node = c.args.n.now in
    let r = c.requires in
    let fits : Fits ns (length ns) n = record { high_back = r.high_within; low_back = r.low_within; high_later = r.high_later; low_later = r.low_later; straight = c.if-not-is_inverted.ensures; differ = c.if-n.false; bounded = r.bounded } in
    cases_map c.place.result (Full t u × Lacks ns n) (Full t u × Short ns n.var n.high n.low) (Placed ns ms n) (Made ns ms n.var n.high n.low)
    (λ p. (p.0, short_straight ns n.var n.high n.low t.set.good fits p.1))
    (λ e p. made_straight ns ms n.var n.high n.low e t.set.good u.set.good c.place.ensures.kept.grown r.high_within r.low_within p)
    c.place.ensures.cases

pub returns-in_err-e-clause-cases : goal.returns-in_err-e-clause-cases
returns-in_err-e-clause-cases c =
    let t = c.args.self.now in
    let ns : List Node = nodes_of t in
    let u = c.place-2.new.self in
    let n : Node = c.args.n.now in
    let r = c.requires in
    let cases = c.in_err-e.ensures.cases in
    let lacks : Lacks ns (node n.var (flip n.high) (flip n.low)) =
    subst (λ x. Lacks ns (node n.var x (flip n.low))) c.inverse.ensures.value
    (subst (λ x. Lacks ns (node n.var c.inverse.result x)) c.inverse-2.ensures.value cases.1) in
    let short = short_flipped ns n.var n.high n.low (short_straight ns n.var (flip n.high) (flip n.low) t.set.good
    (fits_flipped ns n.var n.high n.low r.bounded r.high_within r.low_within r.high_later r.low_later (let odd = c.if-not-is_inverted.ensures in λ z. omega arith) c.if-n.false) lacks) in
    none_is c.from_residual.result (Full t u × Short ns n.var n.high n.low) (Made ns (nodes_of u) n.var n.high n.low) c.from_residual.ensures (cases.0, short)

pub returns-clause-cases : goal.returns-clause-cases
returns-clause-cases c =
    let t = c.args.self.now in
    let u = c.place-2.new.self in
    let ns : List Node = nodes_of t in
    let ms : List Node = nodes_of u in
    let n : Node = c.args.n.now in
    let r = c.requires in
    let e : ℕ = c.in_ok-e.e in
    let placed : Placed ns ms (node n.var (flip n.high) (flip n.low)) e =
    subst (λ x. Placed ns ms (node n.var x (flip n.low)) e) c.inverse.ensures.value
    (subst (λ x. Placed ns ms (node n.var c.inverse.result x) e) c.inverse-2.ensures.value c.in_ok-e.ensures.cases) in
    let hin = r.high_within in
    let lin = r.low_within in
    let made : Made ns ms n.var n.high n.low (flip e) =
    made_flipped ns ms n.var n.high n.low e (made_straight ns ms n.var (flip n.high) (flip n.low) e t.set.good u.set.good c.place-2.ensures.kept.grown (omega (arith, flip_half n.high)) (omega (arith, flip_half n.low)) placed) in
    subst (Made ns ms n.var n.high n.low) (sym c.inverse-3.ensures.value) made
