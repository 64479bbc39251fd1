-- Writing what an accepted sheet says.
use Rattle.std.specs.Prelude.{◌≡◌, ℕ, ◌<◌, List, ◌++◌, length, take, drop, Ok, Err, Result}
use Rattle.sheet.specs.declared.refusal.Refusal.{Refusal}
use Rattle.sheet.specs.declared.refusal.Refusal.TheVariants.{Full}
use Rattle.sheet.specs.declared.writer.Closed.{Closed}
use Rattle.sheet.specs.declared.writer.Gates.{Gates}
use Rattle.sheet.specs.declared.writer.Outputs.{Outputs}
use Rattle.sheet.specs.Format.{Content, encode}
use Rattle.sheet.specs.Written.{HoldsGates, HoldsOutputs}

-- the copy is the sheet, byte for byte, with the place behind it as it was; or the place is too short for it
abbrev pub Copied : List ℕ → List ℕ → Result Closed Refusal → List ℕ → Type 0
Copied place bs (Ok v) after = (take v.size after ≡ bs) × (after ≡ bs ++ drop v.size place)
Copied place bs (Err e) after = (e ≡ Full) × (length place < length bs)

-- the gates are written, or there is no room for the sheet
abbrev pub CopiedGates : List ℕ → Content → ℕ → Result Gates Refusal → List ℕ → Type 0
CopiedGates before c room (Ok v) after = (v.inputs ≡ c.inputs) × HoldsGates before after v c.gates
CopiedGates before c room (Err e) after = (e ≡ Full) × (room < length (encode c))

-- the outputs are written, or there is no room for the sheet
abbrev pub CopiedOutputs : List ℕ → Content → ℕ → Result Outputs Refusal → List ℕ → Type 0
CopiedOutputs before c room (Ok v) after = HoldsOutputs before after v c
CopiedOutputs before c room (Err e) after = (e ≡ Full) × (room < length (encode c))
