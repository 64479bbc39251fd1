-- The number by which each flaw and each section of a sheet, and each refusal of a writer, is known.
use Rattle.std.specs.Prelude.{ℕ}
use Rattle.sheet.specs.declared.fault.Flaw.{Flaw}
use Rattle.sheet.specs.declared.fault.Flaw.TheVariants.{Kind, Unused, Short, Count, Signal, Name, Extra, Edition}
use Rattle.sheet.specs.declared.fault.Section.{Section}
use Rattle.sheet.specs.declared.fault.Section.TheVariants.{Whole, Inputs, Gates, Outputs}
use Rattle.sheet.specs.declared.refusal.Refusal.{Refusal}
use Rattle.sheet.specs.declared.refusal.Refusal.TheVariants.{Wrong, Full}

abbrev pub number_of : Flaw → ℕ
number_of Kind = 3
number_of Unused = 4
number_of Short = 5
number_of Count = 6
number_of Signal = 7
number_of Name = 8
number_of Extra = 9
number_of Edition = 12

abbrev pub section_number : Section → ℕ
section_number Whole = 0
section_number Inputs = 1
section_number Gates = 2
section_number Outputs = 3

abbrev pub refusal_number : Refusal → ℕ
refusal_number (Wrong f) = number_of f
refusal_number Full = 26
