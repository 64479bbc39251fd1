-- What is left to show of `value`, beyond what the search finds.
use Rattle.std.proofs.Common.{◌/◌, ◌∙◌}
use Rattle.aig.specs.Words.{held}
use Rattle.aig.proofs.Filling.{net_filled}
use Rattle.aig.proofs.graph.Graph.value.Goals as goal

pub returns : goal.returns
returns c =
    let filled = rw (c.as_table.ensures.inputs, c.as_table.ensures.vertices) at c.fill.ensures in
    c.net_bit.ensures ∙ net_filled _ _ c.args.code (held c.fill.new.words) c.args.net.0 (filled (c.args.net.0 / 2) c.requires.inside)
