-- What is left to show of `earliest`: the difference of the two words tells the first code, and so the law holds of it.
use Rattle.std.proofs.Common.{◌^◌, ◌<◌, sym, subst, ◌∙◌, arith}
use Rattle.aig.specs.Graphs.{inputs_of, vertices}
use Rattle.aig.specs.Values.{value}
use Rattle.simulation.specs.Earliest.{Tells}
use Rattle.simulation.proofs.Firsts.{earliest_tells}
use Rattle.simulation.proofs.Separating.{separates}
use Rattle.simulation.proofs.separation.earliest.Goals as goal

pub returns : goal.returns
returns c =
    let g = c.args.graph.now in
    let codes = c.args.codes.list.now in
    let a = value (inputs_of g) (vertices g) c.args.a.0 in
    let b = value (inputs_of g) (vertices g) c.args.b.0 in
    let x : c.net_word.result < 2 ^ 64 = omega arith in
    let y : c.net_word-2.result < 2 ^ 64 = omega arith in
    let found = c.then_some.ensures ∙ separates g codes c.simulate.new.words c.args.a.0 c.args.b.0 c.net_word.result c.net_word-2.result
    c.args.codes.few c.simulate.ensures.simulated c.requires.first c.requires.second x y c.net_word.ensures c.net_word-2.ensures in
    record {
      found = found;
      law = subst (Tells codes a b) (sym found) (earliest_tells a b codes);
      simulated = c.simulate.ensures.simulated;
      rest = c.simulate.ensures.rest;
    }
