-- What is read was written: bytes that decode are `encode` of their content, which is lawful.
use Rattle.std.proofs.Common.{◌≡◌, ℕ, zero, suc, ◌+◌, Bool, true, leb, List, [], ◌∷◌, ◌++◌, length, sym, refl, ap, ◌∙◌, subst, append_assoc, append-nil, arith}
use Rattle.std.proofs.lemmas.Bool.{leb-true, and_parts}
use Rattle.std.specs.List.{flat_map}
use Rattle.sheet.specs.declared.gate.Gate.{Gate}
use Rattle.sheet.specs.declared.fault.Flaw.TheVariants.{Kind, Name, Signal, Count, Edition}
use Rattle.sheet.specs.Reading.{Read, got, bad, and_then, Wrong, byte, number, bytes, judged, records}
use Rattle.sheet.specs.Format.{number_bytes, gate_bytes, gate, next_gate, Content, content, Placed, sheet, edition, input_section, gate_section, output_section, end, Output, output, next_output, names, output_bytes, name_fits, placed, within, encode, operand, operand_fits, operand_flaw}
use Rattle.gates.specs.Kinds.{between, reads_b, reads_c}
use Rattle.sheet.specs.Laws.{GateFits, NextGateFits, EachFits, OutputFits, NextOutputFits, Lawful, Bytes, WritesWhatIsRead}
use Rattle.sheet.proofs.Fields.{parts, judged_got, byte_got, number_got, bytes_got, every_past, got_same}

pub record NumberField (ok : ℕ → Bool) (xs : List ℕ) (n : ℕ) (ys : List ℕ) : Type 0 where
  pub split : xs ≡ number_bytes n ++ ys
  pub rest : Bytes ys
  pub fits : ok n ≡ true

number_field : (ok : ℕ → Bool) {xs : List ℕ} {n : ℕ} {ys : List ℕ} → Bytes xs → (number xs ≡ got n ys) × (ok n ≡ true) → NumberField ok xs n ys
number_field ok t e = let p = number_got _ _ _ t e.0 in record { split = p.0; rest = p.1; fits = e.1 }

-- a record that is read: its bytes, bytes after it, and that it fits
pub record OneRead {X : Type 0} (bytes_of : X → List ℕ) (Fits : X → Type 0) (xs : List ℕ) (x : X) (ys : List ℕ) : Type 0 where
  pub split : xs ≡ bytes_of x ++ ys
  pub rest : Bytes ys
  pub fits : Fits x

abbrev pub GateRead : ℕ → List ℕ → Gate → List ℕ → Type 0
GateRead own = OneRead gate_bytes (GateFits own)

abbrev pub OutputRead : ℕ → List (List ℕ) → List ℕ → Output → List ℕ → Type 0
OutputRead signals earlier = OneRead output_bytes (OutputFits signals earlier)

gate_joined : (own k a b c : ℕ) (xs xs₁ xs₂ xs₃ xs₄ : List ℕ) → Bytes xs
    → judged byte (between 1 9) Kind xs ≡ got k xs₁ → operand true own xs₁ ≡ got a xs₂ → operand (reads_b k) own xs₂ ≡ got b xs₃ → operand (reads_c k) own xs₃ ≡ got c xs₄
    → GateRead own xs (record { kind = k; a = a; b = b; c = c }) xs₄
gate_joined own k a b c xs xs₁ xs₂ xs₃ xs₄ t ek ea eb ec =
    let kind = judged_got byte (between 1 9) Kind xs k xs₁ ek in
    let first = byte_got xs k xs₁ kind.0 in
    let t₁ : Bytes xs₁ = every_past (k ∷ []) xs₁ (subst Bytes first t) in
    let fa = number_field (operand_fits true own) t₁ (judged_got number _ (operand_flaw true) xs₁ a xs₂ ea) in
    let fb = number_field (operand_fits (reads_b k) own) fa.rest (judged_got number _ (operand_flaw (reads_b k)) xs₂ b xs₃ eb) in
    let fc = number_field (operand_fits (reads_c k) own) fb.rest (judged_got number _ (operand_flaw (reads_c k)) xs₃ c xs₄ ec) in
    let sa : xs₁ ≡ number_bytes a ++ xs₂ = fa.split in
    let sb : xs₂ ≡ number_bytes b ++ xs₃ = fb.split in
    let sc : xs₃ ≡ number_bytes c ++ xs₄ = fc.split in
    record { split = (cc); rest = fc.rest; fits = record { kind = kind.1; a = fa.fits; b = fb.fits; c = fc.fits } }

pub gate_forth : (own : ℕ) (xs : List ℕ) (g : Gate) (ys : List ℕ) → Bytes xs → gate own xs ≡ got g ys → GateRead own xs g ys
gate_forth own xs g ys t e =
    let p = parts (judged byte (between 1 9) Kind xs) _ g ys e in
    let a = parts (operand true own p.rest) _ g ys p.then in
    let b = parts (operand (reads_b p.value) own a.rest) _ g ys a.then in
    let c = parts (operand (reads_c p.value) own b.rest) _ g ys b.then in
    got_same (GateRead own xs) (gate_joined own _ _ _ _ xs _ _ _ _ t p.first a.first b.first c.first) c.then

output_joined : (signals : ℕ) (earlier : List (List ℕ)) (s n : ℕ) (name xs xs₁ xs₂ xs₃ : List ℕ) → Bytes xs
    → operand true signals xs ≡ got s xs₁ → judged byte (between 1 16) Name xs₁ ≡ got n xs₂ → judged (bytes n) (name_fits earlier) Name xs₂ ≡ got name xs₃
    → OutputRead signals earlier xs (record { signal = s; name = name }) xs₃
output_joined signals earlier s n name xs xs₁ xs₂ xs₃ t es en em =
    let fs = number_field (operand_fits true signals) t (judged_got number _ Signal xs s xs₁ es) in
    let long = judged_got byte (between 1 16) Name xs₁ n xs₂ en in
    let part = judged_got (bytes n) (name_fits earlier) Name xs₂ name xs₃ em in
    let sp = bytes_got n xs₂ name xs₃ part.0 in
    let sa : xs ≡ number_bytes s ++ xs₁ = fs.split in
    let sb : xs₁ ≡ n ∷ xs₂ = byte_got xs₁ n xs₂ long.0 in
    let sc : xs₂ ≡ name ++ xs₃ = sp.0 in
    let sn : n ≡ length name = sp.1 in
    let t₂ : Bytes xs₂ = every_past (n ∷ []) xs₂ (subst Bytes sb fs.rest) in
    record { split = (cc); rest = every_past name xs₃ (subst Bytes sc t₂); fits = record { signal = fs.fits; long = ap (between 1 16) (sym sn) ∙ long.1; name = part.1 } }

pub output_forth : (signals : ℕ) (earlier : List (List ℕ)) (xs : List ℕ) (o : Output) (ys : List ℕ) → Bytes xs → output signals earlier xs ≡ got o ys → OutputRead signals earlier xs o ys
output_forth signals earlier xs o ys t e =
    let p = parts (operand true signals xs) _ o ys e in
    let a = parts (judged byte (between 1 16) Name p.rest) _ o ys p.then in
    let b = parts (judged (bytes a.value) (name_fits earlier) Name a.rest) _ o ys a.then in
    got_same (OutputRead signals earlier xs) (output_joined signals earlier _ _ _ xs _ _ _ t p.first a.first b.first) b.then

-- the records that are read, after those that are read already
pub record ManyRead {X : Type 0} (bytes_of : X → List ℕ) (Fits : List X → X → Type 0) (n : ℕ) (done : List X) (xs : List ℕ) (all : List X) (ys : List ℕ) : Type 0 where
  pub more : List X
  pub is : all ≡ done ++ more
  pub long : length more ≡ n
  pub split : xs ≡ flat_map bytes_of more ++ ys
  pub rest : Bytes ys
  pub fits : EachFits Fits done more

module _ {X : Type 0} (next : List X → List ℕ → Read Wrong X) (bytes_of : X → List ℕ) (Fits : List X → X → Type 0)
    (forth : (done : List X) (xs : List ℕ) (x : X) (ys : List ℕ) → Bytes xs → next done xs ≡ got x ys → OneRead bytes_of (Fits done) xs x ys) where
  one_more : (n : ℕ) (done : List X) (xs : List ℕ) (x : X) (zs : List ℕ) (all : List X) (ys : List ℕ)
      → OneRead bytes_of (Fits done) xs x zs → ManyRead bytes_of Fits n (done ++ x ∷ []) zs all ys → ManyRead bytes_of Fits (suc n) done xs all ys
  one_more n done xs x zs all ys r m = record {
    more = x ∷ m.more;
    is = m.is ∙ append_assoc done (x ∷ []) m.more;
    long = ap suc m.long;
    split = r.split ∙ ap (λ l. bytes_of x ++ l) m.split ∙ sym (append_assoc (bytes_of x) (flat_map bytes_of m.more) ys);
    rest = m.rest;
    fits = (r.fits, m.fits);
  }

  pub records_forth : (n : ℕ) (done : List X) (xs : List ℕ) (all : List X) (ys : List ℕ) → Bytes xs → records next n done xs ≡ got all ys → ManyRead bytes_of Fits n done xs all ys
  records_forth zero done xs all ys t e =
      let same : done ≡ all = cc in
      let left : xs ≡ ys = cc in
      record { more = []; is = sym same ∙ sym (append-nil done); long = refl; split = left; rest = subst Bytes left t; fits = tt }
  records_forth (suc n) done xs all ys t e =
      let p = parts (next done xs) _ all ys e in
      let r = forth done xs p.value p.rest t p.first in
      one_more n done xs p.value p.rest all ys r (records_forth n (done ++ p.value ∷ []) p.rest all ys r.rest p.then)

within_got : {X : Type 0} (s : ℕ) (o : Read Wrong X) (x : X) (ys : List ℕ) → within s o ≡ got x ys → o ≡ got x ys
within_got s (got z zs) x ys e = let a : z ≡ x = cc in let b : zs ≡ ys = cc in cc
within_got s (bad w) x ys e = absurd (cc)

end_got : (xs : List ℕ) (z : ℕ) (ys : List ℕ) → end xs ≡ got z ys → xs ≡ []
end_got [] z ys e = refl
end_got (x ∷ xs) z ys e = absurd (cc)

content_got : (n : ℕ) (o : Read Placed Content) (c : Content) → placed n o ≡ content c → (rest : List ℕ) × (o ≡ got c rest)
content_got n (got d rest) c e = let same : d ≡ c = cc in (rest, (cc))
content_got n (bad w) c e = absurd (cc)

-- a section of records: its count, and then they
module _ {X : Type 0} (next : List X → List ℕ → Read Wrong X) (bytes_of : X → List ℕ) (Fits : List X → X → Type 0)
    (forth : (done : List X) (xs : List ℕ) (x : X) (ys : List ℕ) → Bytes xs → next done xs ≡ got x ys → OneRead bytes_of (Fits done) xs x ys) (ok : ℕ → Bool) where
  pub record SectionRead (xs : List ℕ) (all : List X) (ys : List ℕ) : Type 0 where
    pub split : xs ≡ number_bytes (length all) ++ (flat_map bytes_of all ++ ys)
    pub rest : Bytes ys
    pub few : ok (length all) ≡ true
    pub fits : EachFits Fits [] all

  section_joined : (xs : List ℕ) (n : ℕ) (zs : List ℕ) (all : List X) (ys : List ℕ) → NumberField ok xs n zs → ManyRead bytes_of Fits n [] zs all ys → SectionRead xs all ys
  section_joined xs n zs all ys f m =
      let same : all ≡ m.more = m.is in
      let long : length all ≡ n = ap length same ∙ m.long in
      let a = f.split in
      let b : zs ≡ flat_map bytes_of all ++ ys = m.split ∙ ap (λ l. flat_map bytes_of l ++ ys) (sym same) in
      record { split = (cc); rest = m.rest; few = ap ok long ∙ f.fits; fits = subst (EachFits Fits []) (sym same) m.fits }

  pub section_forth : (xs : List ℕ) (all : List X) (ys : List ℕ) → Bytes xs → and_then (judged number ok Count xs) (λ n rest. records next n [] rest) ≡ got all ys → SectionRead xs all ys
  section_forth xs all ys t e =
      let p = parts (judged number ok Count xs) _ all ys e in
      let f = number_field ok t (judged_got number ok Count xs p.value p.rest p.first) in
      section_joined xs p.value p.rest all ys f (records_forth next bytes_of Fits forth p.value [] p.rest all ys f.rest p.then)

exactly : (v : ℕ) → between 1 1 v ≡ true → v ≡ 1
exactly v h = let p = and_parts (leb 1 v) (leb v 1) h in omega (arith, leb-true _ _ p.0, leb-true _ _ p.1)

sheet_joined : (bs xs₁ xs₂ xs₃ xs₄ xs₅ : List ℕ) (v i z : ℕ) (gs : List Gate) (os : List Output) → Bytes bs
    → edition bs ≡ got v xs₁ → input_section xs₁ ≡ got i xs₂ → gate_section i xs₂ ≡ got gs xs₃ → output_section (i + 2 + length gs) xs₃ ≡ got os xs₄ → end xs₄ ≡ got z xs₅
    → Lawful (record { inputs = i; gates = gs; outputs = os }) × (encode (record { inputs = i; gates = gs; outputs = os }) ≡ bs)
sheet_joined bs xs₁ xs₂ xs₃ xs₄ xs₅ v i z gs os t e₀ e₁ e₂ e₃ e₄ =
    let first = judged_got byte (between 1 1) Edition bs v xs₁ e₀ in
    let one : v ≡ 1 = exactly v first.1 in
    let s₀ : bs ≡ v ∷ xs₁ = byte_got bs v xs₁ first.0 in
    let t₁ : Bytes xs₁ = every_past (v ∷ []) xs₁ (subst Bytes s₀ t) in
    let f = number_field (between 1 64) t₁ (judged_got number _ Count xs₁ i xs₂ e₁) in
    let g = section_forth (next_gate i) gate_bytes (NextGateFits i) (λ done. gate_forth _) (between 0 600) xs₂ gs xs₃ f.rest e₂ in
    let o = section_forth (next_output (i + 2 + length gs)) output_bytes (NextOutputFits (i + 2 + length gs)) (λ done. output_forth _ (names done)) (between 1 256) xs₃ os xs₄ g.rest e₃ in
    let s₁ : xs₁ ≡ number_bytes i ++ xs₂ = f.split in
    let s₂ : xs₂ ≡ number_bytes (length gs) ++ (flat_map gate_bytes gs ++ xs₃) = g.split in
    let s₃ : xs₃ ≡ number_bytes (length os) ++ (flat_map output_bytes os ++ xs₄) = o.split in
    let s₄ : xs₄ ≡ [] = end_got xs₄ z xs₅ e₄ in
    let s₅ : flat_map output_bytes os ++ xs₄ ≡ flat_map output_bytes os = ap (λ l. flat_map output_bytes os ++ l) s₄ ∙ append-nil _ in
    (record { inputs = f.fits; few_gates = g.few; gates = g.fits; few_outputs = o.few; outputs = o.fits }, (cc))

pub encode_decode : WritesWhatIsRead
encode_decode bs c t e =
    let w = content_got _ (sheet bs) c e in
    let p₀ = parts (within 0 (edition bs)) _ c w.0 w.1 in
    let p₁ = parts (within 1 (input_section p₀.rest)) _ c w.0 p₀.then in
    let p₂ = parts (within 2 (gate_section p₁.value p₁.rest)) _ c w.0 p₁.then in
    let p₃ = parts (within 3 (output_section (p₁.value + 2 + length p₂.value) p₂.rest)) _ c w.0 p₂.then in
    let p₄ = parts (within 0 (end p₃.rest)) _ c w.0 p₃.then in
    got_same (λ d _. Lawful d × (encode d ≡ bs))
    (sheet_joined bs p₀.rest p₁.rest p₂.rest p₃.rest p₄.rest p₀.value p₁.value p₄.value p₂.value p₃.value t
    (within_got 0 _ _ _ p₀.first) (within_got 1 _ _ _ p₁.first) (within_got 2 _ _ _ p₂.first) (within_got 3 _ _ _ p₃.first) (within_got 0 _ _ _ p₄.first))
    p₄.then
