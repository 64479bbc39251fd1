-- The seven bytes of a gate record.
use Rattle.std.specs.Prelude.{◌≡◌, ℕ, ◌+◌, ◌-◌, ◌*◌, ◌≤◌, List, length, drop, Bool, true, false, Some, None, Option, Ok, Err, Result, MatchResult, slice_index}
use Rattle.sheet.specs.declared.fault.FieldFault.{FieldFault}
use Rattle.sheet.specs.declared.fault.Flaw.{Flaw}
use Rattle.sheet.specs.declared.gate.Gate.{Gate}
use Rattle.sheet.specs.Reading.{wrong}
use Rattle.sheet.specs.Format.{gate, operand_fits, operand_flaw}
use Rattle.sheet.specs.Laws.{GateFits}

-- the bytes begin with the record, fit or not
pub record Seven (xs : List ℕ) (g : Gate) : Type 0 where
  pub long : 7 ≤ length xs
  pub kind : g.kind ≡ slice_index xs 0
  pub a : g.a ≡ 256 * slice_index xs 1 + slice_index xs 2
  pub b : g.b ≡ 256 * slice_index xs 3 + slice_index xs 4
  pub c : g.c ≡ 256 * slice_index xs 5 + slice_index xs 6

-- the first fault of a record that starts at a place
pub record GateFault (own : ℕ) (g : Gate) (start : ℕ) (e : FieldFault) : Type 0 where
  pub from : start ≤ e.place
  pub upto : e.place ≤ start + 5
  pub is : (xs : List ℕ) → Seven xs g → gate own xs ≡ wrong e.flaw (length (drop (e.place - start) xs))

abbrev pub GateChecked : {X : Type 0} → ℕ → Gate → ℕ → Result X FieldFault → Type 0
GateChecked own g start r = MatchResult r (λ _. GateFits own g) (GateFault own g start)

-- the operand at a place of its record fits, or is the fault there
abbrev pub OperandChecked : {X : Type 0} → Bool → ℕ → ℕ → ℕ → Result X FieldFault → Type 0
OperandChecked read own n place r = MatchResult r (λ _. operand_fits read own n ≡ true) (λ e. (operand_fits read own n ≡ false) × (e ≡ record { flaw = operand_flaw read; place = place }))

-- the flaw alone
abbrev pub flaw_in : {X : Type 0} → Result X FieldFault → Option Flaw
flaw_in (Ok _) = None
flaw_in (Err e) = Some e.flaw
