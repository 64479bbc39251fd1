-- What is written reads back: `decode` of `encode`, record by record.
use Rattle.std.proofs.Common.{◌≡◌, ℕ, ◌+◌, true, leb, List, [], ◌∷◌, ◌++◌, length, sym, refl, ap, ◌∙◌, append_assoc, append-nil, arith}
use Rattle.std.proofs.lemmas.List.{length-append, take_at, drop_at}
use Rattle.std.proofs.lemmas.Bool.{le-leb}
use Rattle.std.specs.List.{flat_map}
use Rattle.sheet.specs.declared.gate.Gate.{Gate}
use Rattle.sheet.specs.Reading.{Read, got, Wrong, records}
use Rattle.sheet.specs.Format.{number_bytes, gate_bytes, gate, next_gate, Output, output, next_output, names, output_bytes, outputs}
use Rattle.sheet.specs.Laws.{GateFits, NextGateFits, EachFits, OutputFits, NextOutputFits, ReadsWhatIsWritten}
use Rattle.sheet.proofs.Fields.{whole_number, chain}

pub gate_back : (own : ℕ) (g : Gate) (ys : List ℕ) → GateFits own g → gate own (gate_bytes g ++ ys) ≡ got g ys
gate_back own g ys f = simp (whole_number, f.kind, f.a, f.b, f.c)

module _ {X : Type 0} (next : List X → List ℕ → Read Wrong X) (bytes_of : X → List ℕ) (Fits : List X → X → Type 0)
    (back : (done : List X) (x : X) (ys : List ℕ) → Fits done x → next done (bytes_of x ++ ys) ≡ got x ys) where
  pub records_back : (done xs : List X) (ys : List ℕ) → EachFits Fits done xs → records next (length xs) done (flat_map bytes_of xs ++ ys) ≡ got (done ++ xs) ys
  records_back done [] ys f = ap (λ l. got l ys) (sym (append-nil done))
  records_back done (x ∷ xs) ys f =
      ap (records next (length (x ∷ xs)) done) (append_assoc (bytes_of x) (flat_map bytes_of xs) ys)
      ∙ chain _ (back done x (flat_map bytes_of xs ++ ys) f.0) (records_back (done ++ x ∷ []) xs ys f.1 ∙ ap (λ l. got l ys) (append_assoc done (x ∷ []) xs))

pub output_back : (signals : ℕ) (earlier : List (List ℕ)) (o : Output) (ys : List ℕ) → OutputFits signals earlier o → output signals earlier (output_bytes o ++ ys) ≡ got o ys
output_back signals earlier o ys f =
    let long = length-append o.name ys in
    let fit : leb (length o.name) (length (o.name ++ ys)) ≡ true = le-leb _ _ (omega arith) in
    simp (whole_number, f.signal, f.long, fit, take_at o.name ys _ refl, drop_at o.name ys _ refl, f.name)

pub decode_encode : ReadsWhatIsWritten
decode_encode c f =
    let gs = records_back (next_gate c.inputs) gate_bytes (NextGateFits c.inputs) (λ done g ys h. gate_back _ g ys h) [] c.gates (number_bytes (length c.outputs) ++ flat_map output_bytes c.outputs) f.gates in
    let os = ap (outputs (c.inputs + 2 + length c.gates) (length c.outputs)) (sym (append-nil _)) ∙ records_back (next_output (c.inputs + 2 + length c.gates)) output_bytes (NextOutputFits (c.inputs + 2 + length c.gates)) (λ done o ys h. output_back _ (names done) o ys h) [] c.outputs [] f.outputs in
    simp (whole_number, f.inputs, f.few_gates, gs, f.few_outputs, os)
