-- What is left to show of `reader::outputs::visible`, beyond what the search finds.
use Rattle.std.proofs.Common.{rules}
use Rattle.sheet.proofs.Skims.{visible_as}
use Rattle.sheet.proofs.reader.outputs.visible.Goals as goal

pub returns : goal.returns
returns c = visible_as c.args.name.now c.all.result (search rules)
