-- What is left to show of `and`, beyond what the search finds.
use Rattle.aig.proofs.Graphs.{whole_of}
use Rattle.aig.proofs.Growth.{pair_in, pair_up, known_anded, grown_anded}
use Rattle.aig.proofs.graph.Graph.and.Goals as goal

pub grow-requires : goal.grow-requires
grow-requires c =
    let w = whole_of c.args.self.now in
    let pair = rw c.as_table-table.ensures.vertices at c.pair-pair.ensures in
    let within = pair_in w _ _ c.requires.first c.requires.second pair in
    let up = pair_up w _ _ c.requires.first c.requires.second pair in
    record {
      fresh = rw (c.as_table-table.ensures.inputs, c.as_table-table.ensures.vertices) at c.in-None.ensures;
      first = (within.0, up.0);
      second = (within.1, up.1);
      room = c.requires.room;
    }

pub returns-in-Some-clause-made : goal.returns-in-Some-clause-made
returns-in-Some-clause-made c =
    let pair = rw c.as_table-table.ensures.vertices at c.pair-pair.ensures in
    known_anded (whole_of c.args.self.now) _ _ c.requires.first c.requires.second pair _ (rw (c.as_table-table.ensures.inputs, c.as_table-table.ensures.vertices) at c.in-Some.ensures)

pub returns-in-None-clause-made : goal.returns-in-None-clause-made
returns-in-None-clause-made c =
    let w = whole_of c.args.self.now in
    let pair = rw c.as_table-table.ensures.vertices at c.pair-pair.ensures in
    let within = pair_in w _ _ c.requires.first c.requires.second pair in
    let up = pair_up w _ _ c.requires.first c.requires.second pair in
    grown_anded w _ _ (rw (c.as_table-table.ensures.inputs, c.as_table-table.ensures.vertices) at c.in-None.ensures) within.0 up.0 within.1 up.1
    _ _ c.requires.first c.requires.second pair _ _ c.grow.ensures.net c.grow.ensures.table
