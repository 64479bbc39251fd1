-- What is left is the start of what was there.
use Rattle.std.proofs.Common.{◌≡◌, ◌≤◌, length, vec_items}
use Rattle.bdd.specs.Diagram.{Grown}
use Rattle.bdd.proofs.store.node_set.NodeSet.cut.Given as goal

abbrev pub invariant-loop-self : goal.invariant-loop-self
invariant-loop-self l = (l.mark ≤ length (vec_items l.self.nodes)) × (l.self.limit ≡ l.initial.self.limit) × Grown (vec_items l.self.nodes) (vec_items l.initial.self.nodes)

abbrev pub decreases-loop-self : goal.decreases-loop-self
decreases-loop-self l = length (vec_items l.self.nodes)
