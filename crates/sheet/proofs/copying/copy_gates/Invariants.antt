-- What the loop of `copying::copy_gates` keeps from turn to turn.
use Rattle.std.proofs.Common.{◌≡◌, ℕ, List, []}
use Rattle.sheet.specs.Ahead.{gates_ahead}
use Rattle.sheet.specs.Sections.{said}
use Rattle.sheet.specs.Written.{HoldsGates}
use Rattle.sheet.proofs.Copies.{GatesSoFar}
use Rattle.sheet.proofs.copying.copy_gates.Given as goal

abbrev pub invariant-loop-gate : goal.invariant-loop-gate
invariant-loop-gate l = (before : List ℕ) → l.initial.writer.inputs ≡ (said l.sheet).inputs → HoldsGates before l.initial.place l.initial.writer [] → GatesSoFar before (said l.sheet) (gates_ahead l.gate-iterator) l.place l.writer
