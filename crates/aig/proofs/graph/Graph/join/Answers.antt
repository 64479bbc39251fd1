-- What is left to show of `join`, beyond what the search finds.
use Rattle.std.proofs.Common.{arith}
use Rattle.std.proofs.lemmas.Bool.Decides.{nat_tests}
use Rattle.aig.proofs.Graphs.{whole_of}
use Rattle.aig.proofs.Joining.{joins_by, joined_by}
use Rattle.aig.proofs.graph.Graph.join.Goals as goal

pub merge-requires : goal.merge-requires
merge-requires c =
    let pair = rw c.as_table.ensures.vertices at c.pair.ensures in
    joins_by (whole_of c.args.self.now) c.requires pair (λ e. grind (arith, nat_tests)) _ _ c.carried.ensures c.vertex.ensures

pub returns-then-ne-clause-joined : goal.returns-then-ne-clause-joined
returns-then-ne-clause-joined c =
    let pair = rw c.as_table.ensures.vertices at c.pair.ensures in
    joined_by (whole_of c.args.self.now) c.requires pair (λ e. grind (arith, nat_tests)) c.carried.ensures c.vertex.ensures c.merge.ensures.after
