-- What is left to show of `copying::copy_gates`, beyond what the search finds.
use Rattle.std.proofs.Common.{arith}
use Rattle.std.proofs.lemmas.Result.{err_from_is_err_and}
use Rattle.sheet.specs.Ahead.{gates_ahead}
use Rattle.sheet.specs.Sections.{said}
use Rattle.sheet.proofs.Copies.{one_more_gate, all_gates, no_room_for_gate}
use Rattle.sheet.proofs.copying.copy_gates.Goals as goal

pub loop-gate-preserved : goal.loop-gate-preserved
loop-gate-preserved c = λ b i h. one_more_gate b c.loop-gate.place c.gate.new.place (said c.args.sheet.now) (gates_ahead c.loop-gate.gate-iterator) (gates_ahead c.next.new.self) c.loop-gate.writer c.in_ok-writer.writer c.in-Some.gate (c.loop-gate.invariant b i h) c.in-Some.ensures.steps c.in_ok-writer.ensures.state

pub returns-in_err-writer : goal.returns-in_err-writer
returns-in_err-writer c = λ b i h.
    let q = no_room_for_gate b c.loop-gate.place (said c.args.sheet.now) (gates_ahead c.loop-gate.gate-iterator) (gates_ahead c.next.new.self) c.loop-gate.writer c.in-Some.gate c.in_err-writer.field-0.0.refusal c.args.sheet.now.lawful (c.loop-gate.invariant b i h) c.in-Some.ensures.steps c.in_err-writer.ensures.refusal in
    let e = err_from_is_err_and c.from_residual.result c.from_residual.ensures.1 in
    rw (e.1, e.2) (q.0, omega (arith, q.1, c.loop-gate.auto.place))

pub returns : goal.returns
returns c = λ b i h. all_gates b c.loop-gate.place (said c.args.sheet.now) (gates_ahead c.loop-gate.gate-iterator) c.loop-gate.writer (c.loop-gate.invariant b i h) c.in-None.ensures.steps.0
