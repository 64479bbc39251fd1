-- What is left to show of `sheet::Sheet::gate_records`, beyond what the search finds.
use Rattle.std.proofs.Common.{◌∙◌}
use Rattle.sheet.specs.Sections.{said}
use Rattle.sheet.proofs.Parts.{says_said, gates_of}
use Rattle.sheet.proofs.sheet.Sheet.gate_records.Goals as goal

pub returns : goal.returns
returns c = gates_of c.args.self.now.bytes.now c.args.self.now.shape (said c.args.self.now) c.new.result (c.new.ensures.0 ∙ c.bytes_from.ensures) c.new.ensures.1 (says_said c.args.self.now)
