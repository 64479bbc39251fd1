-- What is left to show of `carried`, beyond what the search finds.
use Rattle.aig.proofs.Nets.{carried_is}
use Rattle.aig.proofs.net.Net.carried.Goals as goal

pub returns : goal.returns
returns c = carried_is c.args.self.0 c.args.other.0
