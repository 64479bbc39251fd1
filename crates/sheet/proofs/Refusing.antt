-- Which refusal a writer's call gives, from what its tests found.
use Rattle.std.proofs.Common.{◌≡◌, ℕ, ◌+◌, ◌<◌, ◌≤◌, List, length, Some, None, Option, ltb, refl, sym, arith}
use Rattle.std.proofs.lemmas.Bool.{lt-ltb, le-ltb, le-leb, lt-leb}
use Rattle.sheet.specs.declared.fault.Flaw.{Flaw}
use Rattle.sheet.specs.declared.fault.Flaw.TheVariants.{Count}
use Rattle.sheet.specs.declared.refusal.Refusal.TheVariants.{Wrong, Full}
use Rattle.sheet.specs.declared.writer.Outputs.{Outputs}
use Rattle.sheet.specs.Flaws.{unless, first_some, output_flaw}
use Rattle.sheet.specs.Format.{Output, output_bytes}
use Rattle.sheet.specs.Refusals.{flawed, output_refusal}
use Rattle.sheet.specs.Laws.{OutputFits}
use Rattle.sheet.proofs.Writing.{no_flaw}

module _ (room : ℕ) (w : Outputs) (earlier : List (List ℕ)) (o : Output) where
  pub many_outputs : w.outputs ≡ 256 → Some (Wrong Count) ≡ output_refusal room w earlier o
  many_outputs e = simp (le-ltb w.outputs 256 (omega arith))

  pub wrong_output : (f : Flaw) → w.outputs < 256 → output_flaw (w.inputs + 2 + w.gates) earlier o ≡ Some f → Some (Wrong f) ≡ output_refusal room w earlier o
  wrong_output f h e = simp (lt-ltb w.outputs 256 h, e)

  pub full_output : w.outputs < 256 → output_flaw (w.inputs + 2 + w.gates) earlier o ≡ None → room < w.end + length (output_bytes o) → Some Full ≡ output_refusal room w earlier o
  full_output h e f = simp (lt-ltb w.outputs 256 h, e, lt-leb (w.end + length (output_bytes o)) room f)

  pub taken_output : w.outputs < 256 → output_flaw (w.inputs + 2 + w.gates) earlier o ≡ None → w.end + length (output_bytes o) ≤ room → None ≡ output_refusal room w earlier o
  taken_output h e f = simp (lt-ltb w.outputs 256 h, e, le-leb (w.end + length (output_bytes o)) room f)

first_none : {X : Type 0} (p q : Option X) → None ≡ first_some p q → (p ≡ None) × (q ≡ None)
first_none None q e = (refl, sym e)
first_none (Some x) q e = absurd (cc)

flawed_none : (q : Option Flaw) → flawed q ≡ None → q ≡ None
flawed_none None e = refl
flawed_none (Some f) e = absurd (cc)

-- an output that is not refused fits
pub not_refused : (room : ℕ) (w : Outputs) (earlier : List (List ℕ)) (o : Output) → None ≡ output_refusal room w earlier o → OutputFits (w.inputs + 2 + w.gates) earlier o
not_refused room w earlier o e =
    let a = first_none (unless (ltb w.outputs 256) (Wrong Count)) _ e in
    let b = first_none (flawed (output_flaw (w.inputs + 2 + w.gates) earlier o)) _ (sym a.1) in
    no_flaw (w.inputs + 2 + w.gates) earlier o (flawed_none _ b.0)
