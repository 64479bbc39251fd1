-- What is left to show of `sheet::Sheet::output`, beyond what the search finds.
use Rattle.std.proofs.lemmas.Iterator.Consumers.{nth_from_yields_List}
use Rattle.sheet.specs.Sections.{said}
use Rattle.sheet.proofs.Parts.{walk, output_nth}
use Rattle.sheet.proofs.sheet.Sheet.output.Goals as goal

pub returns : goal.returns
returns c = output_nth c.nth.result (said c.args.self.now).outputs c.args.k
    (nth_from_yields_List c.nth.result c.nth.new.self c.args.k c.nth.ensures.ran (walk c.output_records.result (said c.args.self.now).outputs c.output_records.ensures.items))
