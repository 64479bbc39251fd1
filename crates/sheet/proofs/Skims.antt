-- The names in the bytes are those that were read.
use Rattle.std.proofs.Common.{◌≡◌, ℕ, zero, suc, ◌<◌, ◌≤◌, Bool, true, false, ◌||◌, ◌↔◌, IsTrue, MatchBool, leb, List, [], ◌∷◌, ◌++◌, length, get_or, take, drop, sym, refl, ap, ◌∙◌, subst, append_assoc, append-nil, arith}
use Rattle.std.proofs.lemmas.List.{map_push}
use Rattle.std.proofs.lemmas.Bool.{leb-true, le-leb, and_parts, cond-true}
use Rattle.std.specs.Str.{bytes_eq}
use Rattle.std.specs.List.{All, AllWithin, HoldsAt}
use Rattle.sheet.specs.declared.fault.Flaw.TheVariants.{Name}
use Rattle.sheet.specs.Reading.{got, byte, number, bytes, judged, records}
use Rattle.sheet.specs.Format.{Output, output, next_output, names, operand, operand_fits, operand_flaw, name_fits, used, visible}
use Rattle.gates.specs.Kinds.{between}
use Rattle.sheet.specs.Ahead.{whole_output, outputs_in, outputs_ahead}
use Rattle.sheet.specs.declared.output_records.OutputRecords.{OutputRecords}
use Rattle.sheet.specs.declared.reader.Reader.{Reader}
use Rattle.sheet.specs.View.{left}
use Rattle.sheet.proofs.Loops.{SoFar}
use Rattle.sheet.proofs.Fields.{parts, judged_got, byte_got, passed, got_same}

pub record Raw (xs name ys : List ℕ) : Type 0 where
  pub long : 3 ≤ length xs
  pub fits : get_or xs 2 0 ≤ length (drop 3 xs)
  pub is : name ≡ take (get_or xs 2 0) (drop 3 xs)
  pub rest : ys ≡ drop (get_or xs 2 0) (drop 3 xs)

raw_at : (xs xs₁ xs₂ : List ℕ) (h l n : ℕ) (name ys : List ℕ) → xs ≡ h ∷ l ∷ xs₁ → xs₁ ≡ n ∷ xs₂ → n ≤ length xs₂ → take n xs₂ ≡ name → drop n xs₂ ≡ ys → Raw xs name ys
raw_at xs xs₁ xs₂ h l n name ys e e₁ f t d =
    let P : List ℕ → Type 0 = λ z. Raw z name ys in
    let here : Raw (h ∷ l ∷ n ∷ xs₂) name ys = record { long = omega arith; fits = f; is = sym t; rest = sym d } in
    subst P (sym (e ∙ ap (λ z. h ∷ l ∷ z) e₁)) here

number_cells : (xs : List ℕ) (n : ℕ) (ys : List ℕ) → number xs ≡ got n ys → (h : ℕ) × (l : ℕ) × (xs ≡ h ∷ l ∷ ys)
number_cells [] n ys e = absurd (cc)
number_cells (h ∷ []) n ys e = absurd (cc)
number_cells (h ∷ l ∷ xs) n ys e = let r : xs ≡ ys = cc in (h, l, (cc))

raw_joined : (signals : ℕ) (earlier : List (List ℕ)) (s n : ℕ) (name xs xs₁ xs₂ ys : List ℕ)
    → operand true signals xs ≡ got s xs₁ → judged byte (between 1 16) Name xs₁ ≡ got n xs₂ → judged (bytes n) (name_fits earlier) Name xs₂ ≡ got name ys → Raw xs name ys
raw_joined signals earlier s n name xs xs₁ xs₂ ys es en em =
    let a = number_cells xs s xs₁ (judged_got number (operand_fits true signals) (operand_flaw true) xs s xs₁ es).0 in
    let b = byte_got xs₁ n xs₂ (judged_got byte (between 1 16) Name xs₁ n xs₂ en).0 in
    let q = passed (leb n (length xs₂)) (take n xs₂) name (drop n xs₂) ys _ (judged_got (bytes n) (name_fits earlier) Name xs₂ name ys em).0 in
    raw_at xs xs₁ xs₂ a.0 a.1 n name ys a.2 b (leb-true n (length xs₂) q.0) q.1 q.2

pub raw : (signals : ℕ) (earlier : List (List ℕ)) (xs : List ℕ) (o : Output) (ys : List ℕ) → output signals earlier xs ≡ got o ys → Raw xs o.name ys
raw signals earlier xs o ys e =
    let p = parts (operand true signals xs) _ o ys e in
    let a = parts (judged byte (between 1 16) Name p.rest) _ o ys p.then in
    let b = parts (judged (bytes a.value) (name_fits earlier) Name a.rest) _ o ys a.then in
    got_same (λ o ys. Raw xs o.name ys) (raw_joined signals earlier p.value a.value b.value xs p.rest a.rest b.rest p.first a.first b.first) b.then

one_more : (n : ℕ) (done : List Output) (xs : List ℕ) (o : Output) (zs : List ℕ) (all : List Output) → Raw xs o.name zs → names all ≡ names (done ++ o ∷ []) ++ names (outputs_in n zs)
    → names all ≡ names done ++ names (outputs_in (suc n) xs)
one_more n done xs o zs all r s =
    let there : whole_output xs ≡ true = simp (le-leb 3 (length xs) r.long, le-leb (get_or xs 2 0) (length (drop 3 xs)) r.fits) in
    s ∙ ap (λ l. l ++ names (outputs_in n zs)) (map_push (λ o. o.name) done o) ∙ append_assoc (names done) (o.name ∷ []) (names (outputs_in n zs))
    ∙ (λ i. names done ++ r.is i ∷ names (outputs_in n (r.rest i))) ∙ ap (λ l. names done ++ names l) (sym (cond-true _ _ _ there))

-- the names of the records that were read are those that stand in the bytes
pub named_so : (signals n : ℕ) (done : List Output) (xs : List ℕ) (all : List Output) (ys : List ℕ) → records (next_output signals) n done xs ≡ got all ys → names all ≡ names done ++ names (outputs_in n xs)
named_so signals zero done xs all ys e = let same : done ≡ all = cc in ap names (sym same) ∙ sym (append-nil (names done))
named_so signals (suc n) done xs all ys e =
    let p = parts (next_output signals done xs) _ all ys e in
    one_more n done xs p.value p.rest all (raw signals (names done) xs p.value p.rest p.first) (named_so signals n (done ++ p.value ∷ []) p.rest all ys p.then)

or_right : (a b : Bool) → b ≡ true → (a || b) ≡ true
or_right true b e = refl
or_right false b e = e

pub earlier_names : (signals k : ℕ) (start at : Reader) (s : SoFar (next_output signals) start k at) (w : OutputRecords) → w.rest.now ≡ left start → w.left ≡ k → names (outputs_ahead w) ≡ names s.done
earlier_names signals k start at s w r l = (λ i. names (outputs_in (l i) (r i))) ∙ sym (named_so signals k [] (left start) s.done (left at) s.reads)

used_none : (name : List ℕ) (os : List Output) → AllWithin (λ (o : Output). bytes_eq o.name name ≡ false) os 0 (length os) → used name (names os) ≡ false
used_none name [] h = refl
used_none name (o ∷ os) h =
    let here : bytes_eq o.name name ≡ false = h 0 o (omega arith) (omega arith) in
    let rest = used_none name os (λ k d l m. h (suc k) d (omega arith) (omega arith)) in
    simp (here, rest)

used_some : (name : List ℕ) (os : List Output) (k : ℕ) → k < length os → HoldsAt (λ (o : Output). bytes_eq o.name name ≡ true) os k → used name (names os) ≡ true
used_some name [] k l h = absurd (omega arith)
used_some name (o ∷ os) zero l h = ap (λ b. b || used name (names os)) (h o)
used_some name (o ∷ os) (suc k) l h = or_right (bytes_eq o.name name) _ (used_some name os k (omega arith) h)

pub used_as : (name : List ℕ) (os : List Output) (r : Bool)
    → MatchBool r ((k : ℕ) × (k < length os) × HoldsAt (λ (o : Output). bytes_eq o.name name ≡ true) os k) (AllWithin (λ (o : Output). bytes_eq o.name name ≡ false) os 0 (length os)) → r ≡ used name (names os)
used_as name os true h = sym (used_some name os h.0 h.1 h.2)
used_as name os false h = sym (used_none name os h)

-- a byte that can be seen
abbrev pub seen : ℕ → Type 0
seen b = (33 ≤ b) × (b ≤ 126)

visible_from_all : (s : List ℕ) → All seen s → visible s ≡ true
visible_from_all [] h = refl
visible_from_all (b ∷ bs) h =
    let here : seen b = h 0 0 (omega arith) in
    let rest : visible bs ≡ true = visible_from_all bs (λ k d l. h (suc k) d (omega arith)) in
    simp (le-leb 33 b here.0, le-leb b 126 here.1, rest)

at_all : (b : ℕ) (bs : List ℕ) → seen b → All seen bs → All seen (b ∷ bs)
at_all b bs here rest zero d l = here
at_all b bs here rest (suc k) d l = rest k d (omega arith)

all_from_visible : (s : List ℕ) → visible s ≡ true → All seen s
all_from_visible [] h = λ k d l. absurd (omega arith)
all_from_visible (b ∷ bs) h =
    let p = and_parts (between 33 126 b) (visible bs) h in
    let q = and_parts (leb 33 b) (leb b 126) p.0 in
    λ k d l. at_all b bs (leb-true 33 b q.0, leb-true b 126 q.1) (all_from_visible bs p.1) k d l

pub visible_as : (s : List ℕ) (r : Bool) → IsTrue r ↔ All seen s → r ≡ visible s
visible_as s true h = sym (visible_from_all s (h.0 refl))
visible_as s false h = elim (visible s) as (λ v. visible s ≡ v → false ≡ v) [ true ↦ λ e. h.1 (all_from_visible s e) | false ↦ λ e. refl ] refl
