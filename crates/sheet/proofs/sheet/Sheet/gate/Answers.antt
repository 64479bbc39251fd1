-- What is left to show of `sheet::Sheet::gate`, beyond what the search finds.
use Rattle.std.proofs.Common.{rules}
use Rattle.sheet.specs.Sections.{said}
use Rattle.sheet.proofs.Parts.{says_said, gate_found}
use Rattle.sheet.proofs.sheet.Sheet.gate.Goals as goal

pub returns : goal.returns
returns c = gate_found c.args.self.now.bytes.now _ c.args.self.now.shape (said c.args.self.now) c.args.k c.«record».result c.map.result c.if-k-self.false (says_said c.args.self.now) c.bytes_from.ensures (λ x g h. search rules) c.«record».ensures c.map.ensures.cases
