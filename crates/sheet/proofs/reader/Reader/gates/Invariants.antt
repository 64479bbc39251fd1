-- What the loop of `reader::Reader::gates` keeps from turn to turn.
use Rattle.sheet.specs.Format.{next_gate}
use Rattle.sheet.proofs.Loops.{SoFar}
use Rattle.sheet.proofs.reader.Reader.gates.Given as goal

abbrev pub invariant-loop-k : goal.invariant-loop-k
invariant-loop-k l = SoFar (next_gate l.inputs) l.initial.self l.k l.self
