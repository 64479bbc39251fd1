-- What is left to show of `reader::outputs::has_name`, beyond what the search finds.
use Rattle.std.proofs.Common.{◌≡◌, true, false, rules, refl, tests}
use Rattle.std.proofs.lemmas.Iterator.{cases_from_any}
use Rattle.std.specs.Str.{bytes_eq}
use Rattle.sheet.specs.Ahead.{outputs_ahead}
use Rattle.sheet.specs.Format.{Output}
use Rattle.sheet.proofs.Parts.{walk}
use Rattle.sheet.proofs.Skims.{used_as}
use Rattle.sheet.proofs.reader.outputs.has_name.Goals as goal

pub returns : goal.returns
returns c = used_as c.args.name.now (outputs_ahead c.args.outputs) c.any.result
    (cases_from_any c.any.new.self _ c.any.result (λ (o : Output). bytes_eq o.name c.args.name.now ≡ true) (λ (o : Output). bytes_eq o.name c.args.name.now ≡ false) c.any.ensures.ran (walk c.args.outputs (outputs_ahead c.args.outputs) refl) (λ x q k. search (rules, tests)) (λ x q k. search (rules, tests)))
