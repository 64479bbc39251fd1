-- What the loop of `reader::Reader::outputs` keeps from turn to turn.
use Rattle.sheet.specs.Format.{next_output}
use Rattle.sheet.proofs.Loops.{SoFar}
use Rattle.sheet.proofs.reader.Reader.outputs.Given as goal

abbrev pub invariant-loop-k : goal.invariant-loop-k
invariant-loop-k l = SoFar (next_output l.signals) l.initial.self l.k l.self
