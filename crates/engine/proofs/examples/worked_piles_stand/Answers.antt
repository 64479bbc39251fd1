use Rattle.std.proofs.Common.{refl}
use Rattle.engine.proofs.Reaches.{outside_own}
use Rattle.engine.proofs.examples.worked_piles_stand.Goals as goal

pub returns : goal.returns
returns c = record {
  rungs = refl;
  over_chain = λ r s. refl;
  over_ladder = λ r. refl;
  own = outside_own;
}
