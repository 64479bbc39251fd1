-- The chain from here on has the node, if the set has it.
use Rattle.std.proofs.Common.{◌≡◌, ℕ, ◌-◌, ◌<◌, ◌≤◌, length, vec_items}
use Rattle.bdd.specs.Diagram.{node_at}
use Rattle.bdd.specs.Index.{bucket_of}
use Rattle.bdd.proofs.store.node_set.NodeSet.find.Given as goal

abbrev pub invariant-loop-at : goal.invariant-loop-at
invariant-loop-at l =
    (l.at ≤ length (vec_items l.self.nodes))
    × (0 < l.at → bucket_of (length (vec_items l.self.heads)) (node_at (vec_items l.self.nodes) (l.at - 1)) ≡ bucket_of (length (vec_items l.self.heads)) l.n)
    × ((k : ℕ) → k < length (vec_items l.self.nodes) → node_at (vec_items l.self.nodes) k ≡ l.n → k < l.at)

abbrev pub decreases-loop-at : goal.decreases-loop-at
decreases-loop-at l = l.at
