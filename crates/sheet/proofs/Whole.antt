-- A gate record that is all there.
use Rattle.std.proofs.Common.{◌≡◌, ℕ, ◌+◌, ◌-◌, ◌*◌, ◌≤◌, List, [], ◌∷◌, length, get_or, take, drop, Ok, Err, sym, refl, ap, ◌∙◌, subst, arith}
use Rattle.std.proofs.lemmas.List.{length-drop, drop-drop, take_rest}
use Rattle.sheet.specs.declared.gate.Gate.{Gate}
use Rattle.sheet.specs.declared.fault.FieldFault.{FieldFault}
use Rattle.sheet.specs.declared.reader.Reader.{Reader}
use Rattle.sheet.specs.Reading.{got, wrong}
use Rattle.sheet.specs.Format.{gate}
use Rattle.sheet.specs.View.{left, Step}
use Rattle.sheet.specs.Laws.{GateFits}
use Rattle.sheet.specs.Record.{Seven, GateFault}

whole_at : (own k a1 a0 b1 b0 c1 c0 : ℕ) (zs : List ℕ) → GateFits own (record { kind = k; a = 256 * a1 + a0; b = 256 * b1 + b0; c = 256 * c1 + c0 })
    → gate own (k ∷ a1 ∷ a0 ∷ b1 ∷ b0 ∷ c1 ∷ c0 ∷ zs) ≡ got (record { kind = k; a = 256 * a1 + a0; b = 256 * b1 + b0; c = 256 * c1 + c0 }) zs
whole_at own k a1 a0 b1 b0 c1 c0 zs f = simp (f.kind, f.a, f.b, f.c)

seven : (xs : List ℕ) → 7 ≤ length xs → xs ≡ get_or xs 0 0 ∷ get_or xs 1 0 ∷ get_or xs 2 0 ∷ get_or xs 3 0 ∷ get_or xs 4 0 ∷ get_or xs 5 0 ∷ get_or xs 6 0 ∷ drop 7 xs
seven [] h = absurd (omega arith)
seven (x1 ∷ []) h = absurd (omega arith)
seven (x1 ∷ x2 ∷ []) h = absurd (omega arith)
seven (x1 ∷ x2 ∷ x3 ∷ []) h = absurd (omega arith)
seven (x1 ∷ x2 ∷ x3 ∷ x4 ∷ []) h = absurd (omega arith)
seven (x1 ∷ x2 ∷ x3 ∷ x4 ∷ x5 ∷ []) h = absurd (omega arith)
seven (x1 ∷ x2 ∷ x3 ∷ x4 ∷ x5 ∷ x6 ∷ []) h = absurd (omega arith)
seven (x1 ∷ x2 ∷ x3 ∷ x4 ∷ x5 ∷ x6 ∷ x7 ∷ xs) h = refl

whole : (own : ℕ) (xs : List ℕ) (g : Gate) → Seven xs g → GateFits own g → gate own xs ≡ got g (drop 7 xs)
whole own xs g s =
    let here = whole_at own (get_or xs 0 0) (get_or xs 1 0) (get_or xs 2 0) (get_or xs 3 0) (get_or xs 4 0) (get_or xs 5 0) (get_or xs 6 0) (drop 7 xs) in
    let P : Gate → Type 0 = λ g. GateFits own g → gate own xs ≡ got g (drop 7 xs) in
    let first : Gate = record { kind = get_or xs 0 0; a = 256 * get_or xs 1 0 + get_or xs 2 0; b = 256 * get_or xs 3 0 + get_or xs 4 0; c = 256 * get_or xs 5 0 + get_or xs 6 0 } in
    let Q : List ℕ → Type 0 = λ l. GateFits own first → gate own l ≡ got first (drop 7 xs) in
    subst P (λ i. record { kind = sym s.kind i; a = sym s.a i; b = sym s.b i; c = sym s.c i }) (subst Q (sym (seven xs s.long)) here)

-- a record that is all there, in the slice `&sheet[place..]`
abbrev pub part : Reader → List ℕ
part r = take (length r.sheet.now - r.place) (left r)

pub refused_at : (own : ℕ) (before : Reader) (g : Gate) (fault : FieldFault) → Seven (part before) g → GateFault own g before.place fault → Step (gate own) before (Err fault) before
refused_at own before g fault s f =
    let n : ℕ = fault.place - before.place in
    let at : before.place + n ≡ fault.place = omega (arith, f.from) in
    let e = f.is (left before) (subst (λ l. Seven l g) (take_rest before.sheet.now before.place) s) in
    let long : 7 ≤ length before.sheet.now - before.place = omega (arith, s.long, ap length (take_rest before.sheet.now before.place), length-drop before.place before.sheet.now) in
    record {
      sheet = refl;
      reads = sym (e ∙ ap (λ l. wrong fault.flaw (length l)) (drop-drop n before.place before.sheet.now) ∙ ap (wrong fault.flaw) (length-drop _ before.sheet.now) ∙ ap (λ m. wrong fault.flaw (length before.sheet.now - m)) at);
      inside = omega (arith, f.upto);
    }

pub accepted_at : (own : ℕ) (before after : Reader) (g : Gate) (rest : List ℕ) → after.sheet.now ≡ before.sheet.now → after.place ≡ length before.sheet.now - length rest
    → Seven (part before) g → rest ≡ drop 7 (part before) → GateFits own g → Step (gate own) before (Ok g) after
accepted_at own before after g rest same at s r f =
    let t = take_rest before.sheet.now before.place in
    let w = whole own (left before) g (subst (λ l. Seven l g) t s) f in
    let d : rest ≡ drop (before.place + 7) before.sheet.now = r ∙ ap (drop 7) t ∙ drop-drop 7 before.place before.sheet.now in
    let long : 7 ≤ length before.sheet.now - before.place = omega (arith, s.long, ap length t, length-drop before.place before.sheet.now) in
    let place : after.place ≡ before.place + 7 = at ∙ (let l = ap length d ∙ length-drop (before.place + 7) before.sheet.now in omega arith) in
    record {
      sheet = same;
      reads = sym (w ∙ ap (got g) (drop-drop 7 before.place before.sheet.now ∙ (λ i. drop (sym place i) (sym same i))));
      inside = tt;
    }
