-- The measures of `merge` and `rehash`, which fall at each call, and what the loop over the readers keeps true.
use Rattle.std.proofs.Common.{◌+◌, ◌*◌, length}
use Rattle.aig.specs.Table.{standing}
use Rattle.aig.proofs.Sweeps.{Sweeping}
use Rattle.aig.proofs.cascade.+merge_rehash.Given as goal

abbrev pub decreases-merge : goal.decreases-merge
decreases-merge l = 2 * standing l.table.now (length l.table.now)

abbrev pub decreases-rehash : goal.decreases-rehash
decreases-rehash l = 2 * standing l.table.now (length l.table.now) + 1

abbrev pub invariant-merge-loop-w : goal.invariant-merge-loop-w
invariant-merge-loop-w l = Sweeping l.inputs l.initial.table l.gone l.w l.table
