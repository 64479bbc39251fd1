-- The count of nodes against parts.
use Rattle.bdd.proofs.Counting.{fitting}
use Rattle.bdd.proofs.laws.nodes_are_counted.Goals as goal

pub returns : goal.returns
returns c = fitting
