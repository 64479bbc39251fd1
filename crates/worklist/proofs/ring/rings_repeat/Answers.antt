-- The law of rings asked alike.
use Rattle.worklist.proofs.Repeating.{rings}
use Rattle.worklist.proofs.ring.rings_repeat.Goals as goal

pub returns : goal.returns
returns g c = rings
