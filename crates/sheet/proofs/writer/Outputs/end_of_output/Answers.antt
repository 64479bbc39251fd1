-- What is left to show of `writer::Outputs::end_of_output`, beyond what the search finds.
use Rattle.std.proofs.lemmas.Result.{err_from_is_err_and}
use Rattle.std.proofs.Common.{length, Some, None, arith, ◌∙◌}
use Rattle.sheet.specs.Format.{names}
use Rattle.sheet.specs.Names.{output_of}
use Rattle.sheet.proofs.Writing.{flaw_as}
use Rattle.sheet.proofs.Refusing.{wrong_output, full_output, taken_output}
use Rattle.sheet.proofs.writer.Outputs.end_of_output.Goals as goal

pub returns-in_err-check_output-clause-refusal : goal.returns-in_err-check_output-clause-refusal
returns-in_err-check_output-clause-refusal c = λ b d h.
    let p = err_from_is_err_and c.from_residual.result c.from_residual.ensures.1 in
    rw (p.1, p.2) (wrong_output (length c.args.place.now) c.args.self.now (names d.outputs) (output_of c.args.output) c.in_err-check_output.field-0.0 (omega arith)
    (flaw_as b c.args.place.now c.new-earlier.result c.args.self.now d c.signals.result c.end_of_gates.result (output_of c.args.output) (Some c.in_err-check_output.field-0.0) c.signals.ensures c.end_of_gates.ensures (c.new-earlier.ensures.0 ∙ c.bytes_from-records.ensures) c.new-earlier.ensures.1 c.in_err-check_output.ensures.flaw h))

pub returns-then-place-end-clause-refusal : goal.returns-then-place-end-clause-refusal
returns-then-place-end-clause-refusal c = λ b d h. full_output (length c.args.place.now) c.args.self.now (names d.outputs) (output_of c.args.output) (omega arith)
    (flaw_as b c.args.place.now c.new-earlier.result c.args.self.now d c.signals.result c.end_of_gates.result (output_of c.args.output) None c.signals.ensures c.end_of_gates.ensures (c.new-earlier.ensures.0 ∙ c.bytes_from-records.ensures) c.new-earlier.ensures.1 c.in_ok-check_output.ensures.flaw h) (omega arith)

pub returns-clause-refusal : goal.returns-clause-refusal
returns-clause-refusal c = λ b d h. taken_output (length c.args.place.now) c.args.self.now (names d.outputs) (output_of c.args.output) (omega arith)
    (flaw_as b c.args.place.now c.new-earlier.result c.args.self.now d c.signals.result c.end_of_gates.result (output_of c.args.output) None c.signals.ensures c.end_of_gates.ensures (c.new-earlier.ensures.0 ∙ c.bytes_from-records.ensures) c.new-earlier.ensures.1 c.in_ok-check_output.ensures.flaw h) (omega arith)
