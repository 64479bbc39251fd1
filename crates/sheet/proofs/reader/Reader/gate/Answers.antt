-- What is left to show of `reader::Reader::gate`, beyond what the search finds.
use Rattle.std.proofs.Common.{refl, arith}
use Rattle.std.proofs.lemmas.Result.{err_from_is_err_and}
use Rattle.sheet.proofs.Whole.{refused_at, accepted_at}
use Rattle.sheet.proofs.reader.Reader.gate.Goals as goal

pub returns-in_err-check_gate : goal.returns-in_err-check_gate
returns-in_err-check_gate c =
    let p = err_from_is_err_and c.from_residual.result c.from_residual.ensures.1 in
    rw (p.1, p.2) (refused_at c.args.own c.args.self.now c.in-Some.gate c.in_err-check_gate.field-0.0 c.in-Some.ensures.0 (c.in_err-check_gate.ensures.fault (omega arith)))

pub returns : goal.returns
returns c = accepted_at c.args.own c.args.self.now _ c.in-Some.gate c.in-Some.rest.now refl refl c.in-Some.ensures.0 c.in-Some.ensures.1 (c.in_ok-check_gate.ensures.fault (omega arith))
