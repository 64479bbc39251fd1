-- The number of each refusal: the one definition that the promises of the calls cite.
use Rattle.std.specs.Prelude.{ℕ}
use Rattle.comparer.specs.declared.refusal.Refusal.{Refusal}
use Rattle.comparer.specs.declared.refusal.Refusal.TheVariants.{InputCount, NetNotInUse, GateKind, UnusedOperand, CodeTooWide, TableLength, VerticesLeft, Workspace, Memory}

abbrev pub number_of : Refusal → ℕ
number_of InputCount = 1
number_of NetNotInUse = 2
number_of GateKind = 3
number_of UnusedOperand = 4
number_of CodeTooWide = 11
number_of TableLength = 20
number_of VerticesLeft = 21
number_of Workspace = 23
number_of Memory = 0
