-- Which refusal a writer's call gives, if any: a count out of range, then the record's own flaw, then a place too short.
use Rattle.std.specs.Prelude.{ℕ, ◌+◌, List, [], length, Some, None, Ok, Err, Option, Result, nat_le, nat_lt}
use Rattle.gates.specs.Kinds.{between}
use Rattle.sheet.specs.declared.gate.Gate.{Gate}
use Rattle.sheet.specs.declared.fault.Flaw.{Flaw}
use Rattle.sheet.specs.declared.fault.Flaw.TheVariants.{Count}
use Rattle.sheet.specs.declared.refusal.Refusal.{Refusal}
use Rattle.sheet.specs.declared.refusal.Refused.{Refused}
use Rattle.sheet.specs.declared.refusal.Refusal.TheVariants.{Wrong, Full}
use Rattle.sheet.specs.declared.writer.Gates.{Gates}
use Rattle.sheet.specs.declared.writer.Outputs.{Outputs}
use Rattle.sheet.specs.Flaws.{unless, first_some, gate_flaw, output_flaw}
use Rattle.sheet.specs.Format.{Output, output_bytes}
use Rattle.sheet.specs.Written.{gates_end, outputs_start}

-- the refusal that a call gave
abbrev pub refused : {X W : Type 0} → Result X (Refused W) → Option Refusal
refused (Ok _) = None
refused (Err e) = Some e.refusal

abbrev pub flawed : Option Flaw → Option Refusal
flawed (Some f) = Some (Wrong f)
flawed None = None

-- a place of `room` bytes
abbrev pub input_refusal : ℕ → ℕ → Option Refusal
input_refusal room inputs = first_some (unless (between 1 64 inputs) (Wrong Count)) (unless (nat_le 5 room) Full)

abbrev pub gate_refusal : ℕ → Gates → Gate → Option Refusal
gate_refusal room w g =
    first_some (unless (nat_lt w.gates 600) (Wrong Count))
    (first_some (flawed (gate_flaw (w.inputs + 2 + w.gates) g))
    (unless (nat_le (gates_end w.gates + 7) room) Full))

abbrev pub first_output_refusal : ℕ → Gates → Output → Option Refusal
first_output_refusal room w o =
    first_some (flawed (output_flaw (w.inputs + 2 + w.gates) [] o))
    (unless (nat_le (outputs_start w.gates + length (output_bytes o)) room) Full)

abbrev pub output_refusal : ℕ → Outputs → List (List ℕ) → Output → Option Refusal
output_refusal room w earlier o =
    first_some (unless (nat_lt w.outputs 256) (Wrong Count))
    (first_some (flawed (output_flaw (w.inputs + 2 + w.gates) earlier o))
    (unless (nat_le (w.end + length (output_bytes o)) room) Full))

abbrev pub close_refusal : ℕ → Outputs → Option Refusal
close_refusal room w = unless (nat_le w.end room) Full

-- a sheet without outputs is not closed
abbrev pub without_outputs : Refusal
without_outputs = Wrong Count
