-- The walk is on its way, and each turn goes down in one of the two diagrams.
use Rattle.std.proofs.Common.{◌+◌, ◌/◌}
use Rattle.bdd.specs.Contents.{nodes_of}
use Rattle.bdd.specs.Codes.{Walking}
use Rattle.bdd.proofs.store.Table.separate.Given as goal

abbrev pub invariant-loop-e : goal.invariant-loop-e
invariant-loop-e l = Walking l.n (nodes_of l.self) l.first l.second l.e l.f l.code

abbrev pub decreases-loop-e : goal.decreases-loop-e
decreases-loop-e l = l.e / 2 + l.f / 2
