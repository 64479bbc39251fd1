-- What closing a sheet gives, and what is read back.
use Rattle.std.specs.Prelude.{◌≡◌, ℕ, List, ◌++◌, take, drop, Ok, Err, Result}
use Rattle.sheet.specs.declared.fault.SheetFault.{SheetFault}
use Rattle.sheet.specs.declared.refusal.Refused.{Refused}
use Rattle.sheet.specs.declared.sheet.Sheet.{Sheet}
use Rattle.sheet.specs.declared.writer.Closed.{Closed}
use Rattle.sheet.specs.declared.writer.Outputs.{Outputs}
use Rattle.sheet.specs.Format.{Content, encode, decode, content}
use Rattle.sheet.specs.Sections.{Says}
use Rattle.sheet.specs.Written.{HoldsOutputs}

-- the place that held `before` when the writer began starts with the closed sheet, which is the bytes of `c` and reads as `c`; behind it the place is as it was
pub record HoldsSheet (before place : List ℕ) (v : Closed) (c : Content) : Type 0 where
  pub is : take v.size place ≡ encode c
  pub reads : decode (take v.size place) ≡ content c
  pub behind : place ≡ encode c ++ drop v.size before

abbrev pub Closing : List ℕ → Outputs → Result Closed (Refused Outputs) → Type 0
Closing place w (Ok v) = (v.size ≡ w.end) × ((before : List ℕ) (c : Content) → HoldsOutputs before place w c → HoldsSheet before place v c)
Closing place w (Err e) = (e.writer ≡ w) × ((before : List ℕ) (c : Content) → HoldsOutputs before place w c → ⊥)

-- a closed sheet reads back as what the writer was given
abbrev pub ReadsBack : List ℕ → Closed → Result Sheet SheetFault → Type 0
ReadsBack place v (Ok s) = (before : List ℕ) (c : Content) → HoldsSheet before place v c → Says s c
ReadsBack place v (Err f) = (before : List ℕ) (c : Content) → HoldsSheet before place v c → ⊥
