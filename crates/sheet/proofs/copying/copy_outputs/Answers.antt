-- What is left to show of `copying::copy_outputs`, beyond what the search finds.
use Rattle.std.proofs.Common.{arith}
use Rattle.std.proofs.lemmas.Result.{err_from_is_err_and}
use Rattle.sheet.specs.Ahead.{outputs_ahead}
use Rattle.sheet.specs.Names.{output_of}
use Rattle.sheet.specs.Sections.{said}
use Rattle.sheet.proofs.Copies.{with_outputs, one_more_output, all_outputs, no_room_for_first, no_room_for_output}
use Rattle.sheet.proofs.copying.copy_outputs.Goals as goal

pub returns-in_err-writer : goal.returns-in_err-writer
returns-in_err-writer c = λ b i h.
    let q = no_room_for_first b c.args.place.now (said c.args.sheet.now) (outputs_ahead c.output_records-records.result) (outputs_ahead c.next.new.self) c.args.writer (output_of c.in-Some.first) c.in_err-writer.field-0.0.refusal c.args.sheet.now.lawful c.output_records-records.ensures.items c.in-Some.ensures.steps.0 i h c.in_err-writer.ensures.refusal in
    let e = err_from_is_err_and c.from_residual.result c.from_residual.ensures.1 in
    rw (e.1, e.2) q

pub loop-next-preserved : goal.loop-next-preserved
loop-next-preserved c = λ b i h. one_more_output b c.loop-next.place c.output-in-loop-next.new.place (said c.args.sheet.now) (outputs_ahead c.loop-next.next-iterator) (outputs_ahead c.next-in-loop-next.new.self) c.loop-next.writer c.in_ok-writer-2.writer (output_of c.in-Some-next.next) (c.loop-next.invariant b i h) c.in-Some-next.ensures.steps.0 c.in_ok-writer-2.ensures.state

pub returns-in_err-writer-2 : goal.returns-in_err-writer-2
returns-in_err-writer-2 c = λ b i h.
    let s = c.loop-next.invariant b i h in
    let q = no_room_for_output b c.loop-next.place (said c.args.sheet.now) (outputs_ahead c.loop-next.next-iterator) (outputs_ahead c.next-in-loop-next.new.self) c.loop-next.writer (output_of c.in-Some-next.next) c.in_err-writer-2.field-0.0.refusal c.args.sheet.now.lawful s c.in-Some-next.ensures.steps.0
    (c.in_err-writer-2.ensures.refusal b (with_outputs (said c.args.sheet.now) c.loop-next.writer.outputs) s.holds) in
    let e = err_from_is_err_and c.from_residual-in_err-writer-2.result c.from_residual-in_err-writer-2.ensures.1 in
    rw (e.1, e.2) (q.0, omega (arith, q.1, c.loop-next.auto.place))

pub returns : goal.returns
returns c = λ b i h. all_outputs b c.loop-next.place (said c.args.sheet.now) (outputs_ahead c.loop-next.next-iterator) c.loop-next.writer (c.loop-next.invariant b i h) c.in-None.ensures.steps.0.0
