-- What is wrong with a record: its first flaw, field by field.
use Rattle.std.specs.Prelude.{ℕ, Bool, true, cond, List, length, Some, None, Option, nat_lt}
use Rattle.gates.specs.Kinds.{between, is_kind, reads_b, reads_c}
use Rattle.sheet.specs.declared.gate.Gate.{Gate}
use Rattle.sheet.specs.declared.fault.Flaw.{Flaw}
use Rattle.sheet.specs.declared.fault.Flaw.TheVariants.{Kind, Name, Signal}
use Rattle.sheet.specs.Format.{operand_fits, operand_flaw, Output, name_fits}

abbrev pub unless : {X : Type 0} → Bool → X → Option X
unless b x = cond b None (Some x)

abbrev pub first_some : {X : Type 0} → Option X → Option X → Option X
first_some (Some x) q = Some x
first_some None q = q

-- what is wrong with a gate whose own signal is `own`
abbrev pub gate_flaw : ℕ → Gate → Option Flaw
gate_flaw own g =
    first_some (unless (is_kind g.kind) Kind)
    (first_some (unless (operand_fits true own g.a) Signal)
    (first_some (unless (operand_fits (reads_b g.kind) own g.b) (operand_flaw (reads_b g.kind)))
    (unless (operand_fits (reads_c g.kind) own g.c) (operand_flaw (reads_c g.kind)))))

-- what is wrong with an output, where so many signals are and after outputs with the names `earlier`
abbrev pub output_flaw : ℕ → List (List ℕ) → Output → Option Flaw
output_flaw signals earlier o =
    first_some (unless (nat_lt o.signal signals) Signal)
    (first_some (unless (between 1 16 (length o.name)) Name)
    (unless (name_fits earlier o.name) Name))
