-- The records that some bytes begin with, one after another, lawful or not: so many, as far as they are all there.
use Rattle.std.specs.Prelude.{ℕ, zero, suc, ◌+◌, ◌*◌, Bool, cond, ◌&&◌, List, [], ◌∷◌, length, take, drop, slice_index, nat_le}
use Rattle.sheet.specs.declared.gate.Gate.{Gate}
use Rattle.sheet.specs.declared.gate_records.GateRecords.{GateRecords}
use Rattle.sheet.specs.declared.output_records.OutputRecords.{OutputRecords}
use Rattle.sheet.specs.Format.{Output}

abbrev pub gate_at : List ℕ → Gate
gate_at xs = record {
  kind = slice_index xs 0;
  a = 256 * slice_index xs 1 + slice_index xs 2;
  b = 256 * slice_index xs 3 + slice_index xs 4;
  c = 256 * slice_index xs 5 + slice_index xs 6;
}

abbrev pub gates_in : ℕ → List ℕ → List Gate
gates_in zero xs = []
gates_in (suc n) xs = cond (nat_le 7 (length xs)) (gate_at xs ∷ gates_in n (drop 7 xs)) []

-- an output record has its name's length before its name
abbrev pub whole_output : List ℕ → Bool
whole_output xs = nat_le 3 (length xs) && nat_le (slice_index xs 2) (length (drop 3 xs))

abbrev pub output_at : List ℕ → Output
output_at xs = record { signal = 256 * slice_index xs 0 + slice_index xs 1; name = take (slice_index xs 2) (drop 3 xs) }

abbrev pub outputs_in : ℕ → List ℕ → List Output
outputs_in zero xs = []
outputs_in (suc n) xs = cond (whole_output xs) (output_at xs ∷ outputs_in n (drop (slice_index xs 2) (drop 3 xs))) []

-- what lies ahead of a walk
abbrev pub gates_ahead : GateRecords → List Gate
gates_ahead w = gates_in w.left w.rest.now

abbrev pub outputs_ahead : OutputRecords → List Output
outputs_ahead w = outputs_in w.left w.rest.now
