-- What is left to show of `reader::Reader::gates`, beyond what the search finds.
use Rattle.std.proofs.Common.{◌≡◌, ℕ, ◌+◌, Ok, Err, sym, subst, arith}
use Rattle.gates.specs.Kinds.{between}
use Rattle.std.proofs.lemmas.Result.{err_from_is_err_and}
use Rattle.sheet.specs.Format.{next_gate, gate}
use Rattle.sheet.specs.View.{Step}
use Rattle.sheet.proofs.Loops.{SoFar, more, all, stopped}
use Rattle.sheet.proofs.reader.Reader.gates.Goals as goal

pub loop-k-preserved : goal.loop-k-preserved
loop-k-preserved c =
    let P : ℕ → Type 0 = λ n. Step (gate (c.args.inputs + 2 + n)) c.loop-k.self (Ok c.in_ok-gate.field-0) c.gate.new.self in
    more (next_gate c.args.inputs) (λ g. g) c.number_within.new.self c.loop-k.k c.loop-k.self c.gate.new.self c.in_ok-gate.field-0 c.loop-k.invariant (subst P (sym c.loop-k.invariant.long) c.in_ok-gate.ensures)

pub returns-in_err-gate : goal.returns-in_err-gate
returns-in_err-gate c =
    let P : ℕ → Type 0 = λ n. Step (gate (c.args.inputs + 2 + n)) c.loop-k.self (Err c.in_err-gate.field-0.0) c.gate.new.self in
    let p = err_from_is_err_and c.from_residual-in_err-gate.result c.from_residual-in_err-gate.ensures.1 in
    rw (p.1, p.2) (stopped (next_gate c.args.inputs) (λ g. g) (between 0 600) c.args.self.now c.number_within.new.self c.in_ok-count.count c.loop-k.k c.loop-k.self c.gate.new.self c.in_err-gate.field-0.0 c.in_ok-count.ensures c.loop-k.invariant c.loop-k-test.true (subst P (sym c.loop-k.invariant.long) c.in_err-gate.ensures))

pub returns : goal.returns
returns c =
    let P : ℕ → Type 0 = λ n. SoFar (next_gate c.args.inputs) c.number_within.new.self n c.loop-k.self in
    let e : c.loop-k.k ≡ c.in_ok-count.count = omega arith in
    all (next_gate c.args.inputs) (between 0 600) c.args.self.now c.number_within.new.self c.in_ok-count.count c.loop-k.self c.in_ok-count.ensures (subst P e c.loop-k.invariant)
