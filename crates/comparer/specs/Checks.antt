-- The checks of each call, in their order: a call is refused by the number of the first check that fails, and by no other.
use Rattle.std.specs.Prelude.{◌≡◌, ℕ, ◌+◌, ◌/◌, ◌^◌, Bool, true, false, cond, not, List, [], ◌∷◌, Some, None, Ok, Err, Option, Result, ◌==◌, nat_lt}
use Rattle.gates.specs.Kinds.{between, is_kind, reads_b, reads_c}
use Rattle.comparer.specs.declared.refusal.Refusal.{Refusal}
use Rattle.comparer.specs.declared.session.Session.{Session}
use Rattle.comparer.specs.Refusals.{number_of}
use Rattle.comparer.specs.Sessions.{inputs_of, places_of, used}

-- what has to hold, and the number of the refusal where it does not
pub record Check : Type 0 where
  pub holds : Bool
  pub number : ℕ

abbrev pub must : Bool → ℕ → Check
must holds number = record { holds = holds; number = number }

-- the number of the first check that fails
abbrev pub first_failed : List Check → Option ℕ
first_failed [] = None
first_failed (c ∷ cs) = cond c.holds (first_failed cs) (Some c.number)

-- a net is in use where its vertex is
abbrev pub in_use : Session → ℕ → Bool
in_use s x = nat_lt (x / 2) (used s)

-- an operand that is read is in use, and one that is not read is 0
abbrev pub operand_check : Session → Bool → ℕ → Check
operand_check s true x = must (in_use s x) 2
operand_check s false x = must (x == 0) 4

-- the bits of a code at the number of inputs and above are 0
abbrev pub code_check : Session → ℕ → Check
code_check s code = must (nat_lt code (2 ^ inputs_of s)) 11

abbrev pub open_refusal : ℕ → ℕ → Option ℕ
open_refusal n places = first_failed (must (between 1 64 n) 1 ∷ must (between (n + 1) 4096 places) 20 ∷ [])

abbrev pub gate_refusal : Session → ℕ → ℕ → ℕ → ℕ → Option ℕ
gate_refusal s kind a b c = first_failed (
    must (is_kind kind) 3
    ∷ operand_check s true a ∷ operand_check s (reads_b kind) b ∷ operand_check s (reads_c kind) c
    ∷ must (not (nat_lt (places_of s) (used s + 3))) 21 ∷ [])

abbrev pub value_refusal : Session → ℕ → ℕ → ℕ → Option ℕ
value_refusal s x code words = first_failed (must (in_use s x) 2 ∷ code_check s code ∷ must (not (nat_lt words (used s))) 23 ∷ [])

-- a check on its own: passed, or refused by its number
abbrev pub Passed : Check → Result (Unit {0}) Refusal → Type 0
Passed c (Ok _) = c.holds ≡ true
Passed c (Err e) = (c.holds ≡ false) × (number_of e ≡ c.number)
