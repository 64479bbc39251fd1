-- each part computes
use Rattle.std.proofs.Common.{refl}
use Rattle.aig.specs.Values.{vertex_value, value}
use Rattle.simulation.proofs.examples.worked_lists_stand.Goals as goal

pub returns : goal.returns
unfolding value vertex_value
returns c = record {
  xor_and = refl;
  xor_and_sparse = refl;
  xor_and_none = refl;
  xor_input = refl;
}
