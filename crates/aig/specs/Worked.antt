-- A worked run with two inputs, as one statement: each gate's net in turn, and values of one of them.
use Rattle.std.specs.Prelude.{◌≡◌, ℕ, true, false}
use Rattle.gates.specs.declared.kind.Kind.{Kind}
use Rattle.gates.specs.declared.kind.Kind.TheVariants.{And, Or, Xor, Mux}
use Rattle.aig.specs.Table.{opening}
use Rattle.aig.specs.Values.{value}
use Rattle.aig.specs.Ands.{Made}
use Rattle.aig.specs.Kinds.{gate_of}

abbrev next : Made → Kind → ℕ → ℕ → ℕ → Made
next m k a b c = gate_of 2 m.table k a b c

abbrev and_1 : Made
and_1 = gate_of 2 (opening 2) And 2 4 0

abbrev or_2 : Made
or_2 = next and_1 Or 2 4 0

abbrev xor_3 : Made
xor_3 = next or_2 Xor 2 4 0

abbrev or_4 : Made
or_4 = next xor_3 Or 3 5 0

abbrev and_5 : Made
and_5 = next or_4 And 2 3 0

abbrev mux_6 : Made
mux_6 = next and_5 Mux 2 5 4

pub record Worked : Type 0 where
  pub and_2_4 : and_1.net ≡ 6
  pub or_2_4 : or_2.net ≡ 9
  pub xor_2_4 : xor_3.net ≡ 10
  pub or_3_5 : or_4.net ≡ 7
  pub and_2_3 : and_5.net ≡ 0
  pub value_code_1 : value 2 and_5.table 10 1 ≡ true
  pub value_code_3 : value 2 and_5.table 10 3 ≡ false
  pub mux_2_5_4 : mux_6.net ≡ 17
