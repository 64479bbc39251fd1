-- What is left to show of `writer::add_outputs::put_output`, beyond what the search finds.
use Rattle.std.proofs.Common.{ap, ◌∙◌, arith}
use Rattle.sheet.specs.Written.{put}
use Rattle.sheet.proofs.Writing.{three}
use Rattle.sheet.proofs.Fields.{two_bytes}
use Rattle.sheet.proofs.writer.add_outputs.put_output.Goals as goal

pub returns : goal.returns
returns c = three c.args.place.now c.put.new.place c.put-2.new.place c.put-3.new.place c.args.at c.args.output.signal c.args.output.name.now c.requires.room
    (c.put.ensures ∙ ap (put c.args.place.now c.args.at) (c.to_be_bytes.ensures ∙ two_bytes c.args.output.signal (omega arith)))
    c.put-2.ensures c.put-3.ensures
