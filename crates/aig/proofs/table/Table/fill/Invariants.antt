-- What the loop in `fill` keeps true.
use Rattle.std.proofs.Common.{◌≡◌, ℕ, ◌<◌}
use Rattle.aig.specs.Values.{vertex_value}
use Rattle.aig.specs.Words.{held}
use Rattle.aig.proofs.table.Table.fill.Given as goal

abbrev pub invariant-loop-v : goal.invariant-loop-v
invariant-loop-v l = (k : ℕ) → k < l.v → held l.words k ≡ vertex_value l.self.inputs l.self.vertices.now l.code k
