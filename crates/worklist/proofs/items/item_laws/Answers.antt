-- The law of heaps asked alike, at an order in which items of equal rank are the same item.
use Rattle.worklist.proofs.Ranking.{repeat}
use Rattle.worklist.proofs.items.item_laws.Goals as goal

pub returns-clause-repeat : goal.returns-clause-repeat
returns-clause-repeat g c = repeat g.met.T.Ord.total g.met.T.Item.ordered
