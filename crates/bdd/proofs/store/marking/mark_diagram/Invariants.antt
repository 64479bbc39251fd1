-- From i on, the marks are closed under children.
use Rattle.std.proofs.Common.{◌/◌}
use Rattle.bdd.specs.Marking.{at, Marks}
use Rattle.bdd.proofs.store.marking.mark_diagram.Given as goal

abbrev pub invariant-loop-i : goal.invariant-loop-i
invariant-loop-i l = Marks l.nodes l.e (l.e / 2) l.i (at l.marks)
