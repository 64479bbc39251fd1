-- What the loop of `copying::copy_outputs` keeps from turn to turn.
use Rattle.std.proofs.Common.{◌≡◌, ℕ, List}
use Rattle.sheet.specs.Ahead.{outputs_ahead}
use Rattle.sheet.specs.Sections.{said}
use Rattle.sheet.specs.Written.{HoldsGates}
use Rattle.sheet.proofs.Copies.{OutputsSoFar}
use Rattle.sheet.proofs.copying.copy_outputs.Given as goal

abbrev pub invariant-loop-next : goal.invariant-loop-next
invariant-loop-next l = (before : List ℕ) → l.fn.writer.inputs ≡ (said l.sheet).inputs → HoldsGates before l.fn.place l.fn.writer (said l.sheet).gates → OutputsSoFar before (said l.sheet) (outputs_ahead l.next-iterator) l.place l.writer
