-- What is left to show of `sheet::Sheet::output_records`, beyond what the search finds.
use Rattle.std.proofs.Common.{◌∙◌}
use Rattle.sheet.specs.Sections.{said, Ahead}
use Rattle.sheet.proofs.Parts.{says_said, all_ahead, ahead_is}
use Rattle.sheet.proofs.sheet.Sheet.output_records.Goals as goal

pub returns : goal.returns
returns c =
    let all : Ahead c.new.result (said c.args.self.now).outputs = all_ahead c.args.self.now.bytes.now c.args.self.now.shape (said c.args.self.now) c.new.result (c.new.ensures.0 ∙ c.bytes_from.ensures) c.new.ensures.1 (says_said c.args.self.now) in
    record { bytes = all; items = ahead_is c.new.result (said c.args.self.now).outputs all }
