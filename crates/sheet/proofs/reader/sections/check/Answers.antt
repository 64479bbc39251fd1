-- What is left to show of `reader::sections::check`, beyond what the search finds.
use Rattle.std.proofs.Common.{◌+◌, ◌≤◌, refl, arith}
use Rattle.sheet.specs.Format.{edition, input_section, gate_section, output_section}
use Rattle.sheet.specs.View.{left, counted}
use Rattle.sheet.proofs.Passes.{at_ok, read_all, all_read, more_left, few_inputs, few_gates}
use Rattle.sheet.proofs.reader.sections.check.Goals as goal

pub overflow_add-inputs-2 : goal.overflow_add-inputs-2
overflow_add-inputs-2 c =
    let i : c.in_ok-inputs.inputs ≤ 64 = few_inputs (left c.byte_within.new.self) _ (left c.number_within.new.self) (at_ok (λ x. x) input_section c.byte_within.new.self c.number_within.new.self c.number_within.result c.in_ok-inputs.inputs c.number_within.ensures c.in_ok-inputs.ensures.cases).reads in
    let g : c.in_ok-gates.gates ≤ 600 = few_gates c.in_ok-inputs.inputs (left c.number_within.new.self) _ (left c.gates.new.self) (at_ok (λ x. x) (λ xs. counted (gate_section c.in_ok-inputs.inputs xs)) c.number_within.new.self c.gates.new.self c.gates.result c.in_ok-gates.gates c.gates.ensures c.in_ok-gates.ensures.cases).reads in
    omega arith

pub returns-then-reader-sheet : goal.returns-then-reader-sheet
returns-then-reader-sheet c = rw c.in_section.ensures (more_left c.args.sheet.now c.in_ok-inputs.inputs c.in_ok-gates.gates c.in_ok-outputs.outputs c.outputs.new.self
    (read_all _ c.byte_within.new.self c.number_within.new.self c.gates.new.self c.outputs.new.self c.in_ok-map_err.field-0 c.in_ok-inputs.inputs c.in_ok-gates.gates c.in_ok-outputs.outputs refl
    (at_ok (λ x. x) edition _ c.byte_within.new.self c.byte_within.result c.in_ok-map_err.field-0 c.byte_within.ensures c.in_ok-map_err.ensures.cases)
    (at_ok (λ x. x) input_section c.byte_within.new.self c.number_within.new.self c.number_within.result c.in_ok-inputs.inputs c.number_within.ensures c.in_ok-inputs.ensures.cases)
    (at_ok (λ x. x) (λ xs. counted (gate_section c.in_ok-inputs.inputs xs)) c.number_within.new.self c.gates.new.self c.gates.result c.in_ok-gates.gates c.gates.ensures c.in_ok-gates.ensures.cases)
    (at_ok (λ x. x) (λ xs. counted (output_section (c.in_ok-inputs.inputs + 2 + c.in_ok-gates.gates) xs)) c.gates.new.self c.outputs.new.self c.outputs.result c.in_ok-outputs.outputs c.outputs.ensures c.in_ok-outputs.ensures.cases))
    c.if-reader-sheet.true)

pub returns : goal.returns
returns c = all_read c.args.sheet.now c.in_ok-inputs.inputs c.in_ok-gates.gates c.in_ok-outputs.outputs c.outputs.new.self (λ k. (c.type_inv.sheet k).fits)
    (read_all _ c.byte_within.new.self c.number_within.new.self c.gates.new.self c.outputs.new.self c.in_ok-map_err.field-0 c.in_ok-inputs.inputs c.in_ok-gates.gates c.in_ok-outputs.outputs refl
    (at_ok (λ x. x) edition _ c.byte_within.new.self c.byte_within.result c.in_ok-map_err.field-0 c.byte_within.ensures c.in_ok-map_err.ensures.cases)
    (at_ok (λ x. x) input_section c.byte_within.new.self c.number_within.new.self c.number_within.result c.in_ok-inputs.inputs c.number_within.ensures c.in_ok-inputs.ensures.cases)
    (at_ok (λ x. x) (λ xs. counted (gate_section c.in_ok-inputs.inputs xs)) c.number_within.new.self c.gates.new.self c.gates.result c.in_ok-gates.gates c.gates.ensures c.in_ok-gates.ensures.cases)
    (at_ok (λ x. x) (λ xs. counted (output_section (c.in_ok-inputs.inputs + 2 + c.in_ok-gates.gates) xs)) c.gates.new.self c.outputs.new.self c.outputs.result c.in_ok-outputs.outputs c.outputs.ensures c.in_ok-outputs.ensures.cases))
    c.if-reader-sheet.false
