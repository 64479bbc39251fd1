-- The least variable of a marked node is the topmost that the function depends on.
use Rattle.std.proofs.Common.{ℕ, ◌/◌, ◌<◌, ◌≤◌, Bool, List, length, take, MatchOption, sym, ap, ◌∙◌, subst, arith, rules}
use Rattle.bdd.specs.declared.store.nodes.Node.{Node}
use Rattle.bdd.specs.Diagram.{eval}
use Rattle.bdd.specs.Marking.{at}
use Rattle.bdd.specs.Reading.{Ignores, Topmost, least_of}
use Rattle.bdd.proofs.Values.{cases_map}
use Rattle.bdd.proofs.Leasts.{NoneAbove, Least, least_of_is}
use Rattle.bdd.proofs.Reading.{topmost_none, topmost_some}
use Rattle.bdd.proofs.store.topmost.topmost_of.Goals as goal

pub returns : goal.returns
returns c =
    let ns : List Node = c.args.nodes.now in
    let ms : List Bool = c.mark_diagram.new.marks in
    let e : ℕ = c.args.e in
    let bound : ℕ = c.args.bound in
    let φ : (ℕ → Bool) → Bool = λ ρ. eval ns ρ e in
    let r = c.requires in
    let marks = c.mark_diagram.ensures in
    let room : e / 2 ≤ length ms = search rules in
    let found : MatchOption c.least_above.result (NoneAbove ns (at ms) (e / 2) bound) (Least ns (at ms) (e / 2) bound) =
    subst (λ o. MatchOption o (NoneAbove ns (at ms) (e / 2) bound) (Least ns (at ms) (e / 2) bound))
    (sym (c.least_above.ensures ∙ ap (λ n. least_of (take n ns) (take n ms) bound) c.place_of-n.ensures)) (least_of_is ns ms (e / 2) bound r.within room) in
    cases_map c.least_above.result (NoneAbove ns (at ms) (e / 2) bound) ((u : ℕ) → bound < u → Ignores φ u) (Least ns (at ms) (e / 2) bound) (Topmost φ bound)
    (λ none. topmost_none ns e (e / 2) (at ms) r.good r.within marks bound (omega arith) none)
    (λ v least. topmost_some ns e (e / 2) (at ms) r.good r.within marks bound v (omega arith) least)
    found
