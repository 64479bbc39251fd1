-- What an accepted sheet says, and the round trips in the words of the calls: what a writer holds, and what a read sheet says.
use Rattle.std.specs.Prelude.{◌≡◌, ℕ, List, take}
use Rattle.sheet.specs.declared.sheet.Sheet.{Sheet}
use Rattle.sheet.specs.declared.writer.Outputs.{Outputs}
use Rattle.sheet.specs.Format.{Content, decode, content}
use Rattle.sheet.specs.Sections.{Says, said}
use Rattle.sheet.specs.Written.{HoldsOutputs}

-- an accepted sheet says what is said of it, and nothing else
abbrev pub SaysOne : Type 0
SaysOne = (s : Sheet) → Says s (said s) × ((c : Content) → Says s c → said s ≡ c)

-- what a writer was given is what its sheet reads as
abbrev pub ReadAsGiven : Type 0
ReadAsGiven = (before place : List ℕ) (w : Outputs) (c : Content) → HoldsOutputs before place w c → decode (take w.end place) ≡ content c

-- a writer that was given what an accepted sheet says holds that sheet, byte for byte
abbrev pub SameAsWritten : Type 0
SameAsWritten = (s : Sheet) (c : Content) → Says s c → (before place : List ℕ) (w : Outputs) → HoldsOutputs before place w c → take w.end place ≡ s.bytes.now
