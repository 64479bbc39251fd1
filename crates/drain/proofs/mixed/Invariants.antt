-- The list keeps what it needs of its slots.
use Rattle.drain.proofs.mixed.Given as goal

abbrev pub invariant-loop-round : goal.invariant-loop-round
invariant-loop-round g l = g.W.WorkList.sound l.trial.list l.trial.slots
