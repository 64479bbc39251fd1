-- The law is a lemma of this crate.
use Rattle.simulation.proofs.Firsts.{earliest_tells}
use Rattle.simulation.proofs.laws.earliest_law_stands.Goals as goal

pub returns : goal.returns
returns c codes f g = earliest_tells f g codes
