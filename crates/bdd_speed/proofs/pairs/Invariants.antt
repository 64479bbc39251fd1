-- The sum so far is an edge of the table.
use Rattle.bdd.specs.Diagram.{Within}
use Rattle.bdd.specs.Contents.{nodes_of}
use Rattle.bdd_speed.proofs.pairs.Given as goal

abbrev pub invariant-loop-i : goal.invariant-loop-i
invariant-loop-i l = Within (nodes_of l.t) l.sum
