-- What is left to show of `writer::Outputs::close`, beyond what the search finds.
use Rattle.std.proofs.Common.{length, refl, arith}
use Rattle.std.proofs.lemmas.Bool.{le-leb}
use Rattle.sheet.proofs.Writing.{closed}
use Rattle.sheet.proofs.writer.Outputs.close.Goals as goal

pub returns : goal.returns
returns c = record {
  state = (refl, λ b d h. closed b c.args.place.now c.args.self _ d refl h);
  refusal = simp (le-leb c.args.self.end (length c.args.place.now) (omega (arith, c.if-place-self.false)));
}
