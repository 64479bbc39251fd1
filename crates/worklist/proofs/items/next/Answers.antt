-- The heap's own promises, in the words of the item's order.
use Rattle.std.proofs.Common.{length}
use Rattle.worklist.proofs.Promises.{foremost_take}
use Rattle.worklist.proofs.Ranking.{foremost}
use Rattle.worklist.proofs.items.next.Goals as goal

pub returns-clause-takes : goal.returns-clause-takes
returns-clause-takes g c = foremost g.met.T.Ord.total g.met.T.Item.ordered _ _ _ c.take.ensures.leaves

pub returns-clause-promise : goal.returns-clause-promise
returns-clause-promise g c = foremost_take g.T.Item.before (length c.args.slots.now) _ _ _ (foremost g.met.T.Ord.total g.met.T.Item.ordered _ _ _ c.take.ensures.leaves)
