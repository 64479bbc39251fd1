-- What the loop in `find` keeps true.
use Rattle.std.proofs.Common.{◌≡◌, ℕ, ◌<◌}
use Rattle.aig.specs.Table.{Stands, left_of, right_of}
use Rattle.aig.proofs.table.Table.find.Given as goal

abbrev pub invariant-loop-v : goal.invariant-loop-v
invariant-loop-v l = (k : ℕ) → l.self.inputs < k → k < l.v → Stands l.self.vertices.now k → left_of l.self.vertices.now k ≡ l.pair.low.0 → right_of l.self.vertices.now k ≡ l.pair.high.0 → ⊥
