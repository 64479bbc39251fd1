-- What is left to show of `next` of `output_records::OutputRecords`, beyond what the search finds.
use Rattle.std.proofs.Common.{◌≡◌, suc, ◌-◌, [], refl, sym, ap, ◌∙◌, arith, rules}
use Rattle.sheet.specs.Ahead.{outputs_ahead}
use Rattle.sheet.specs.Names.{output_of}
use Rattle.sheet.specs.Sections.{item}
use Rattle.sheet.proofs.Parts.{first_output, ahead_is, ahead_more, none_ahead}
use Rattle.sheet.proofs.output_records.OutputRecordsIterator.next.Goals as goal

pub returns-clause-steps : goal.returns-clause-steps
returns-clause-steps c =
    let one : c.args.self.now.left ≡ suc (c.args.self.now.left - 1) = omega arith in
    let first = first_output c.args.self.now.left (c.args.self.now.left - 1) c.args.self.now.rest.now (output_of c.in_ok-output.output) c.in_ok-output.rest.now one c.in_ok-output.ensures in (
      first,
      λ os a. (ap (λ l. item l 0) (sym first ∙ ahead_is c.args.self.now os a), ahead_more c.args.self.now _ os (output_of c.in_ok-output.output) c.in_ok-output.rest.now c.if-self-eq0.false c.in_ok-output.ensures refl refl a),
    )

pub returns-in_err-output-clause-steps : goal.returns-in_err-output-clause-steps
returns-in_err-output-clause-steps c =
    let none : outputs_ahead c.args.self.now ≡ [] = search rules in
    rw c.from_residual.ensures ((none, none), λ os a. none_ahead c.args.self.now os none a)
