-- As many are counted as are set so far.
use Rattle.std.proofs.Common.{◌≡◌, take}
use Rattle.std.specs.List.{count_by}
use Rattle.bdd.proofs.store.marking.count_marks.Given as goal

abbrev pub invariant-loop-marked : goal.invariant-loop-marked
invariant-loop-marked l = l.count ≡ count_by (λ b. b) (take l.marked-index l.marks)
