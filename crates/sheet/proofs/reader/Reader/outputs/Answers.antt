-- What is left to show of `reader::Reader::outputs`, beyond what the search finds.
use Rattle.std.proofs.Common.{◌≡◌, ℕ, List, Ok, Err, subst, arith, ◌∙◌}
use Rattle.gates.specs.Kinds.{between}
use Rattle.std.proofs.lemmas.Result.{err_from_is_err_and}
use Rattle.sheet.specs.Format.{next_output, output}
use Rattle.sheet.specs.Names.{output_of}
use Rattle.sheet.specs.View.{StepBy}
use Rattle.sheet.proofs.Loops.{SoFar, more, all, stopped}
use Rattle.sheet.proofs.Skims.{earlier_names}
use Rattle.sheet.proofs.reader.Reader.outputs.Goals as goal

pub loop-k-preserved : goal.loop-k-preserved
loop-k-preserved c =
    let same = earlier_names c.args.signals c.loop-k.k c.number_within.new.self c.loop-k.self c.loop-k.invariant c.new.result (c.new.ensures.0 ∙ c.bytes_from-records.ensures) c.new.ensures.1 in
    let P : List (List ℕ) → Type 0 = λ earlier. StepBy output_of (output c.args.signals earlier) c.loop-k.self (Ok c.in_ok-output.field-0) c.output.new.self in
    more (next_output c.args.signals) output_of c.number_within.new.self c.loop-k.k c.loop-k.self c.output.new.self c.in_ok-output.field-0 c.loop-k.invariant (subst P same c.in_ok-output.ensures)

pub returns-in_err-output : goal.returns-in_err-output
returns-in_err-output c =
    let same = earlier_names c.args.signals c.loop-k.k c.number_within.new.self c.loop-k.self c.loop-k.invariant c.new.result (c.new.ensures.0 ∙ c.bytes_from-records.ensures) c.new.ensures.1 in
    let P : List (List ℕ) → Type 0 = λ earlier. StepBy output_of (output c.args.signals earlier) c.loop-k.self (Err c.in_err-output.field-0.0) c.output.new.self in
    let p = err_from_is_err_and c.from_residual-in_err-output.result c.from_residual-in_err-output.ensures.1 in
    rw (p.1, p.2) (stopped (next_output c.args.signals) output_of (between 1 256) c.args.self.now c.number_within.new.self c.in_ok-count.count c.loop-k.k c.loop-k.self c.output.new.self c.in_err-output.field-0.0 c.in_ok-count.ensures c.loop-k.invariant c.loop-k-test.true (subst P same c.in_err-output.ensures))

pub returns : goal.returns
returns c =
    let P : ℕ → Type 0 = λ n. SoFar (next_output c.args.signals) c.number_within.new.self n c.loop-k.self in
    let e : c.loop-k.k ≡ c.in_ok-count.count = omega arith in
    all (next_output c.args.signals) (between 1 256) c.args.self.now c.number_within.new.self c.in_ok-count.count c.loop-k.self c.in_ok-count.ensures (subst P e c.loop-k.invariant)
