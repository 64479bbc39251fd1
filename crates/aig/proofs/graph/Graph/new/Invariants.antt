-- What the loop in `new` keeps true.
use Rattle.std.proofs.Common.{◌≡◌, ◌≤◌, vec_items, vec_capacity}
use Rattle.aig.specs.Table.{row}
use Rattle.aig.proofs.graph.Graph.new.Given as goal

abbrev pub invariant-loop-v : goal.invariant-loop-v
invariant-loop-v l = (vec_items l.table ≡ row l.v) × (l.places ≤ vec_capacity l.table)
