-- each part computes
use Rattle.std.proofs.Common.{refl}
use Rattle.aig.specs.Values.{vertex_value, value}
use Rattle.aig.specs.Ands.{and_of}
use Rattle.aig.proofs.examples.worked_run_stands.Goals as goal

pub returns : goal.returns
unfolding and_of value vertex_value
returns c = record {
  and_2_4 = refl;
  or_2_4 = refl;
  xor_2_4 = refl;
  or_3_5 = refl;
  and_2_3 = refl;
  value_code_1 = refl;
  value_code_3 = refl;
  mux_2_5_4 = refl;
}
