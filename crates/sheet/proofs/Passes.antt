-- The sections of a sheet in turn.
use Rattle.std.proofs.Common.{◌≡◌, ℕ, zero, suc, ◌+◌, ◌-◌, ◌<◌, ◌≤◌, leb, List, [], ◌∷◌, ◌++◌, length, get_or, drop, Ok, Err, Result, MatchResult, sym, refl, ap, ◌∙◌, subst, arith}
use Rattle.std.proofs.lemmas.List.{drop_all, length-drop, length_push}
use Rattle.std.proofs.lemmas.Bool.{leb-true, and_parts}
use Rattle.sheet.specs.declared.fault.FieldFault.{FieldFault}
use Rattle.sheet.specs.declared.fault.SheetFault.{SheetFault}
use Rattle.sheet.specs.declared.fault.Flaw.TheVariants.{Extra, Count}
use Rattle.sheet.specs.declared.gate.Gate.{Gate}
use Rattle.sheet.specs.declared.reader.Reader.{Reader}
use Rattle.sheet.specs.Reading.{Read, got, bad, Wrong, wrong, number, judged, records}
use Rattle.gates.specs.Kinds.{between}
use Rattle.sheet.specs.Format.{next_gate, Output, within, edition, input_section, gate_section, output_section, end, sheet, placed, decode, content, fault}
use Rattle.sheet.specs.Numbers.{number_of}
use Rattle.sheet.specs.View.{left, counted, Step, StepBy}
use Rattle.sheet.specs.Sections.{Accepted}
use Rattle.sheet.specs.Laws.{Bytes}
use Rattle.sheet.proofs.Forth.{encode_decode}
use Rattle.sheet.proofs.Fields.{chain, parts, judged_got}
use Rattle.sheet.proofs.Loops.{broken}

pub record Counted {X : Type 0} (o : Read Wrong (List X)) (n : ℕ) (rest : List ℕ) : Type 0 where
  pub list : List X
  pub long : length list ≡ n
  pub is : o ≡ got list rest

pub counted_got : {X : Type 0} (o : Read Wrong (List X)) (n : ℕ) (rest : List ℕ) → got n rest ≡ counted o → Counted o n rest
counted_got (got xs ys) n rest e = record { list = xs; long = (cc); is = (let r : ys ≡ rest = cc in cc) }
counted_got (bad w) n rest e = absurd (cc)

pub fails : (bs : List ℕ) (w : Wrong) (s p : ℕ) → sheet bs ≡ bad (record { section = s; wrong = w }) → w.left ≡ length bs - p → p ≤ length bs → decode bs ≡ fault (number_of w.flaw) s p
fails bs w s p e l h =
    let q : length bs - w.left ≡ p = omega arith in
    ap (placed (length bs)) e ∙ ap (fault (number_of w.flaw) s) q

-- all sections were read, up to the bytes that are left
module _ (bs : List ℕ) (v : ℕ) (xs₁ : List ℕ) (e₀ : edition bs ≡ got v xs₁) (i : ℕ) (xs₂ : List ℕ) (e₁ : input_section xs₁ ≡ got i xs₂) (gs : List Gate) (xs₃ : List ℕ) (e₂ : gate_section i xs₂ ≡ got gs xs₃)
    (os : List Output) (xs₄ : List ℕ) (e₃ : output_section (i + 2 + length gs) xs₃ ≡ got os xs₄) where
  not_ended : (w : Wrong) → end xs₄ ≡ bad w → sheet bs ≡ bad (record { section = 0; wrong = w })
  not_ended w e = chain _ (ap (within 0) e₀) (chain _ (ap (within 1) e₁) (chain _ (ap (within 2) e₂) (chain _ (ap (within 3) e₃) (broken _ (ap (within 0) e)))))

  ended : (z : ℕ) (xs₅ : List ℕ) → end xs₄ ≡ got z xs₅ → sheet bs ≡ got (record { inputs = i; gates = gs; outputs = os }) xs₅
  ended z xs₅ e = chain _ (ap (within 0) e₀) (chain _ (ap (within 1) e₁) (chain _ (ap (within 2) e₂) (chain _ (ap (within 3) e₃) (chain _ (ap (within 0) e) refl))))

-- a section that was read, of which the pass kept the answer
pub at_ok : {X Y : Type 0} (view : Y → X) (field : List ℕ → Read Wrong X) (before after : Reader) (r : Result Y FieldFault) (y : Y) → StepBy view field before r after
    → MatchResult r (λ x. ◌≡◌ {A = Result Y SheetFault} (Ok y) (Ok x)) (λ _. ⊥) → StepBy view field before (Ok y) after
at_ok view field before after (Ok x) y h e = let same : x ≡ y = cc in subst (λ z. StepBy view field before (Ok z) after) same h
at_ok view field before after (Err f) y h e = absurd e

-- a sheet that is read up to its end
pub record ReadAll (bs : List ℕ) (i n m : ℕ) (at : Reader) : Type 0 where
  pub gs : List Gate
  pub os : List Output
  pub many_gates : length gs ≡ n
  pub many_outputs : length os ≡ m
  pub same : at.sheet.now ≡ bs
  pub at_end : (z : ℕ) → end (left at) ≡ got z [] → sheet bs ≡ got (record { inputs = i; gates = gs; outputs = os }) []
  pub not_at_end : (w : Wrong) → end (left at) ≡ bad w → sheet bs ≡ bad (record { section = 0; wrong = w })

pub read_all : (r₀ r₁ r₂ r₃ r₄ : Reader) (v i n m : ℕ) → r₀.place ≡ 0
    → Step edition r₀ (Ok v) r₁ → Step input_section r₁ (Ok i) r₂ → Step (λ xs. counted (gate_section i xs)) r₂ (Ok n) r₃ → Step (λ xs. counted (output_section (i + 2 + n) xs)) r₃ (Ok m) r₄
    → ReadAll r₀.sheet.now i n m r₄
read_all r₀ r₁ r₂ r₃ r₄ v i n m start s₀ s₁ s₂ s₃ =
    let bs : List ℕ = r₀.sheet.now in
    let g = counted_got (gate_section i (left r₂)) n (left r₃) s₂.reads in
    let o = counted_got (output_section (i + 2 + n) (left r₃)) m (left r₄) s₃.reads in
    let e₀ : edition bs ≡ got v (left r₁) = ap (λ p. edition (drop p bs)) (sym start) ∙ sym s₀.reads in
    let e₃ : output_section (i + 2 + length g.list) (left r₃) ≡ got o.list (left r₄) = ap (λ k. output_section (i + 2 + k) (left r₃)) g.long ∙ o.is in
    record {
      gs = g.list;
      os = o.list;
      many_gates = g.long;
      many_outputs = o.long;
      same = s₃.sheet ∙ s₂.sheet ∙ s₁.sheet ∙ s₀.sheet;
      at_end = λ z e. ended bs v (left r₁) e₀ i (left r₂) (sym s₁.reads) g.list (left r₃) g.is o.list (left r₄) e₃ z [] e;
      not_at_end = λ w e. not_ended bs v (left r₁) e₀ i (left r₂) (sym s₁.reads) g.list (left r₃) g.is o.list (left r₄) e₃ w e;
    }

bytes_from : (bs : List ℕ) → ((i : ℕ) → get_or bs i 0 < 256) → Bytes bs
bytes_from [] h = tt
bytes_from (b ∷ bs) h = (h 0, bytes_from bs (λ i. h (suc i)))

pub all_read : (bs : List ℕ) (i n m : ℕ) (at : Reader) → ((k : ℕ) → get_or bs k 0 < 256) → ReadAll bs i n m at → length bs ≤ at.place → Accepted bs (record { inputs = i; gates = n; outputs = m })
all_read bs i n m at t r h =
    let e : left at ≡ [] = drop_all at.place at.sheet.now (omega (arith, ap length r.same)) in
    let d : decode bs ≡ content (record { inputs = i; gates = r.gs; outputs = r.os }) = ap (placed (length bs)) (r.at_end 0 (ap end e)) in
    let law = encode_decode bs (record { inputs = i; gates = r.gs; outputs = r.os }) (bytes_from bs t) d in (
      record { inputs = i; gates = r.gs; outputs = r.os },
      record {
        decodes = d;
        shape = λ j. record { inputs = i; gates = sym r.many_gates j; outputs = sym r.many_outputs j };
        lawful = law.0;
        again = law.1;
      },
    )

extra : (xs : List ℕ) → 0 < length xs → end xs ≡ wrong Extra (length xs)
extra [] h = absurd (omega arith)
extra (x ∷ xs) h = refl

pub more_left : (bs : List ℕ) (i n m : ℕ) (at : Reader) → ReadAll bs i n m at → at.place < length bs → decode bs ≡ fault 9 0 at.place
more_left bs i n m at r h =
    let l = length-drop at.place at.sheet.now in
    let same = ap length r.same in
    fails bs (record { flaw = Extra; left = length (left at) }) 0 at.place (r.not_at_end _ (extra (left at) (omega arith))) (omega arith) (omega arith)

records_long : {X : Type 0} (next : List X → List ℕ → Read Wrong X) (n : ℕ) (done : List X) (xs : List ℕ) (all : List X) (ys : List ℕ) → records next n done xs ≡ got all ys → length all ≡ length done + n
records_long next zero done xs all ys e = let same : done ≡ all = cc in omega (arith, ap length same)
records_long next (suc n) done xs all ys e =
    let p = parts (next done xs) _ all ys e in
    let q = records_long next n (done ++ p.value ∷ []) p.rest all ys p.then in
    omega (arith, q, length_push done p.value)

pub few_gates : (i : ℕ) (xs : List ℕ) (n : ℕ) (rest : List ℕ) → got n rest ≡ counted (gate_section i xs) → n ≤ 600
few_gates i xs n rest e =
    let g = counted_got (gate_section i xs) n rest e in
    let p = parts (judged number (between 0 600) Count xs) _ g.list rest g.is in
    let j = judged_got number (between 0 600) Count xs p.value p.rest p.first in
    let k = records_long (next_gate i) p.value [] p.rest g.list rest p.then in
    omega (arith, g.long, k, leb-true _ _ (and_parts (leb 0 p.value) (leb p.value 600) j.1).1)

pub few_inputs : (xs : List ℕ) (n : ℕ) (rest : List ℕ) → got n rest ≡ input_section xs → n ≤ 64
few_inputs xs n rest e = leb-true _ _ (and_parts (leb 1 n) (leb n 64) (judged_got number (between 1 64) Count xs n rest (sym e)).1).1
