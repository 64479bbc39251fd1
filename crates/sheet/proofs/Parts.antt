-- The parts of a sheet without fault.
use Rattle.std.proofs.Common.{◌≡◌, ℕ, zero, suc, ◌+◌, ◌-◌, ◌*◌, ◌<◌, ◌≤◌, List, [], ◌∷◌, ◌++◌, length, get_or, take, drop, Some, None, Option, slice_get, true, sym, refl, ap, ◌∙◌, subst, append_assoc, append-nil, arith, Bor, MatchOption, IsSomeAnd}
use Rattle.std.specs.List.{flat_map}
use Rattle.std.proofs.lemmas.List.{drop-drop, length-append, drop_at, take_at}
use Rattle.sheet.specs.declared.gate.Gate.{Gate}
use Rattle.sheet.specs.declared.shape.Shape.{Shape}
use Rattle.sheet.specs.Format.{Content, encode, decode, gate_bytes, number_bytes, output_bytes, Output}
use Rattle.std.proofs.lemmas.Bool.{le-leb, cond-true}
use Rattle.sheet.specs.Record.{Seven}
use Rattle.sheet.specs.Sections.{GivesNext, BytesSay, Says, said, Ahead, item, output_in}
use Rattle.std.specs.Option.{option_map}
use Rattle.std.proofs.lemmas.Iterator.{YieldsList}
use Rattle.std.proofs.lemmas.Iterator.Consumers.{YieldsList-from_shown}
use Rattle.sheet.specs.declared.output.OutputRecord.{OutputRecord}
use Rattle.sheet.specs.Ahead.{gate_at, gates_in, gates_ahead, whole_output, output_at, outputs_in, outputs_ahead}
use Rattle.sheet.specs.declared.gate_records.GateRecords.{GateRecords}
use Rattle.sheet.specs.declared.sheet.Sheet.{Sheet}
use Rattle.sheet.proofs.Back.{decode_encode}
use Rattle.sheet.specs.Names.{Split, output_of}
use Rattle.sheet.specs.declared.output_records.OutputRecords.{OutputRecords}
use Rattle.sheet.proofs.Fields.{whole_number}

-- the bytes from the gate `k` on
gates_drop : (k : ℕ) (gs : List Gate) (ys : List ℕ) (d : Gate) → k < length gs → (zs : List ℕ) × (drop (7 * k) (flat_map gate_bytes gs ++ ys) ≡ gate_bytes (get_or gs k d) ++ zs)
gates_drop k [] ys d h = absurd (omega arith)
gates_drop zero (g ∷ gs) ys d h = (flat_map gate_bytes gs ++ ys, refl)
gates_drop (suc k) (g ∷ gs) ys d h =
    let r = gates_drop k gs ys d (omega arith) in
    let e : 7 * suc k ≡ suc (suc (suc (suc (suc (suc (suc (7 * k))))))) = omega arith in
    (r.0, ap (λ n. drop n (flat_map gate_bytes (g ∷ gs) ++ ys)) e ∙ r.1)

-- the record at the front is the gate
same_gate : (g h : Gate) (zs : List ℕ) → Seven (gate_bytes g ++ zs) h → h ≡ g
same_gate g h zs s = λ i. record { kind = s.kind i; a = (s.a ∙ whole_number g.a) i; b = (s.b ∙ whole_number g.b) i; c = (s.c ∙ whole_number g.c) i }

pub record AtGate (bs : List ℕ) (c : Content) (k : ℕ) (d : Gate) : Type 0 where
  pub rest : List ℕ
  pub is : drop (5 + 7 * k) bs ≡ gate_bytes (get_or c.gates k d) ++ rest

pub at_gate : (bs : List ℕ) (c : Content) (k : ℕ) (d : Gate) → encode c ≡ bs → k < length c.gates → AtGate bs c k d
at_gate bs c k d e h =
    let r = gates_drop k c.gates (number_bytes (length c.outputs) ++ flat_map output_bytes c.outputs) d h in
    record { rest = r.0; is = ap (drop (5 + 7 * k)) (sym e) ∙ sym (drop-drop (7 * k) 5 (encode c)) ∙ r.1 }

pub item_at : {X : Type 0} (xs : List X) (k : ℕ) (d : X) → k < length xs → Some (get_or xs k d) ≡ item xs k
item_at [] k d h = absurd (omega arith)
item_at (x ∷ xs) zero d h = refl
item_at (x ∷ xs) (suc k) d h = item_at xs k d (omega arith)

many_gates : (bs : List ℕ) (s : Shape) (c : Content) → BytesSay bs s c → s.gates ≡ length c.gates
many_gates bs s c a = ap (λ t. t.gates) a.shape

gate_item : (bs : List ℕ) (s : Shape) (c : Content) (k : ℕ) (g : Gate) → k < s.gates → Seven (drop (5 + 7 * k) bs) g → BytesSay bs s c → Some g ≡ item c.gates k
gate_item bs s c k g h sv a =
    let inside : k < length c.gates = omega (arith, many_gates bs s c a) in
    let at = at_gate bs c k g a.again inside in
    let here : Seven (gate_bytes (get_or c.gates k g) ++ at.rest) g = subst (λ l. Seven l g) at.is sv in
    ap Some (same_gate (get_or c.gates k g) g at.rest here) ∙ item_at c.gates k g inside

gate_there : (bs : List ℕ) (s : Shape) (c : Content) (k : ℕ) → k < s.gates → length (drop (5 + 7 * k) bs) < 7 → BytesSay bs s c → ⊥
gate_there bs s c k h short a =
    let d : Gate = record { kind = 0; a = 0; b = 0; c = 0 } in
    let g = at_gate bs c k d a.again (omega (arith, many_gates bs s c a)) in
    let l : 7 ≤ length (gate_bytes (get_or c.gates k d) ++ g.rest) = omega arith in
    omega (arith, ap length g.is)

-- the gate at the front of the bytes from there on, if one is found there, is the gate `k`
pub gate_found : (bs xs : List ℕ) (s : Shape) (c : Content) (k : ℕ) (found : Option (Gate × Bor (List ℕ))) (r : Option Gate) {Answers : Gate × Bor (List ℕ) → Gate → Type 0}
    → k < s.gates → BytesSay bs s c → xs ≡ drop (5 + 7 * k) bs → ((x : Gate × Bor (List ℕ)) (g : Gate) → Answers x g → g ≡ x.0)
    → MatchOption found (length xs < 7) (λ x. Seven xs x.0 × (x.1.now ≡ drop 7 xs))
    → MatchOption found (r ≡ None) (λ x. IsSomeAnd r (Answers x)) → r ≡ item c.gates k
gate_found bs xs s c k None r h a e same short m = absurd (gate_there bs s c k h (subst (λ l. length l < 7) e short) a)
gate_found bs xs s c k (Some x) None h a e same there m = absurd m
gate_found bs xs s c k (Some x) (Some g) h a e same there m = ap Some (same x g m) ∙ gate_item bs s c k x.0 h (subst (λ l. Seven l x.0) e there.0) a

pub first_gate : (n m : ℕ) (xs : List ℕ) (g : Gate) (ys : List ℕ) → n ≡ suc m → Seven xs g → ys ≡ drop 7 xs → gates_in n xs ≡ g ∷ gates_in m ys
first_gate n m xs g ys e s r =
    let same : gate_at xs ≡ g = λ i. record { kind = sym s.kind i; a = sym s.a i; b = sym s.b i; c = sym s.c i } in
    ap (λ k. gates_in k xs) e ∙ cond-true _ _ _ (le-leb 7 (length xs) s.long) ∙ (λ i. same i ∷ gates_in m (sym r i))

seven_bytes : (g : Gate) (zs : List ℕ) → Seven (gate_bytes g ++ zs) g
seven_bytes g zs = record { long = omega arith; kind = refl; a = sym (whole_number g.a); b = sym (whole_number g.b); c = sym (whole_number g.c) }

pub gates_back : (gs : List Gate) (ys : List ℕ) → gates_in (length gs) (flat_map gate_bytes gs ++ ys) ≡ gs
gates_back [] ys = refl
gates_back (g ∷ gs) ys = first_gate (length (g ∷ gs)) (length gs) (flat_map gate_bytes (g ∷ gs) ++ ys) g (flat_map gate_bytes gs ++ ys) refl (seven_bytes g (flat_map gate_bytes gs ++ ys)) refl ∙ ap (λ l. g ∷ l) (gates_back gs ys)

pub first_output : (n m : ℕ) (xs : List ℕ) (o : Output) (ys : List ℕ) → n ≡ suc m → Split xs o ys → outputs_in n xs ≡ o ∷ outputs_in m ys
first_output n m xs o ys e s =
    let there : whole_output xs ≡ true = simp (le-leb 3 (length xs) s.long, le-leb (get_or xs 2 0) (length (drop 3 xs)) s.fits) in
    let same : output_at xs ≡ o = λ i. record { signal = sym s.signal i; name = sym s.name i } in
    ap (λ k. outputs_in k xs) e ∙ cond-true _ _ _ there ∙ (λ i. same i ∷ outputs_in m (sym s.rest i))

split_bytes : (o : Output) (zs : List ℕ) → Split (output_bytes o ++ zs) o zs
split_bytes o zs = record {
  long = omega arith;
  fits = omega (arith, length-append o.name zs);
  signal = sym (whole_number o.signal);
  name = sym (take_at o.name zs _ refl);
  rest = sym (drop_at o.name zs _ refl);
}

pub outputs_back : (os : List Output) (ys : List ℕ) → outputs_in (length os) (flat_map output_bytes os ++ ys) ≡ os
outputs_back [] ys = refl
outputs_back (o ∷ os) ys =
    ap (outputs_in (length (o ∷ os))) (append_assoc (output_bytes o) (flat_map output_bytes os) ys)
    ∙ first_output (length (o ∷ os)) (length os) (output_bytes o ++ (flat_map output_bytes os ++ ys)) o (flat_map output_bytes os ++ ys) refl (split_bytes o (flat_map output_bytes os ++ ys))
    ∙ ap (λ l. o ∷ l) (outputs_back os ys)

pub ahead_is : (w : OutputRecords) (os : List Output) → Ahead w os → outputs_ahead w ≡ os
ahead_is w os a = ap (λ n. outputs_in n w.rest.now) (sym a.count) ∙ ap (outputs_in (length os)) (a.is ∙ sym (append-nil _)) ∙ outputs_back os []

-- where no output is to be found, none lies ahead
pub none_ahead : (w : OutputRecords) (os : List Output) → outputs_ahead w ≡ [] → Ahead w os → (None ≡ item os 0) × Ahead w (drop 1 os)
none_ahead w [] e a = (refl, a)
none_ahead w (o ∷ os) e a = absurd (omega (arith, ap length (sym e ∙ ahead_is w (o ∷ os) a)))

-- the record at the front of the bytes of an output is that output
split_is : (xs : List ℕ) (o p : Output) (ys zs : List ℕ) → xs ≡ output_bytes o ++ ys → Split xs p zs → (p ≡ o) × (zs ≡ ys)
split_is xs o p ys zs e s =
    let size : get_or xs 2 0 ≡ length o.name = ap (λ l. get_or l 2 0) e in
    let tail : drop 3 xs ≡ o.name ++ ys = ap (drop 3) e in
    let sig : p.signal ≡ o.signal = s.signal ∙ ap (λ l. 256 * get_or l 0 0 + get_or l 1 0) e ∙ whole_number o.signal in
    let name : p.name ≡ o.name = s.name ∙ (λ i. take (size i) (tail i)) ∙ take_at o.name ys _ refl in
    ((λ i. record { signal = sig i; name = name i }), s.rest ∙ (λ i. drop (size i) (tail i)) ∙ drop_at o.name ys _ refl)

pub ahead_more : (w v : OutputRecords) (os : List Output) (p : Output) (ys : List ℕ) → (w.left ≡ 0 → ⊥) → Split w.rest.now p ys → v.rest.now ≡ ys → v.left ≡ w.left - 1 → Ahead w os → Ahead v (drop 1 os)
ahead_more w v [] p ys z s e l a = absurd (z (sym a.count))
ahead_more w v (o ∷ os) p ys z s e l a =
    let q = split_is w.rest.now o p (flat_map output_bytes os) ys a.is s in
    record { is = e ∙ q.1; count = omega (arith, l, a.count) }

pub gates_long : (gs : List Gate) → length (flat_map gate_bytes gs) ≡ 7 * length gs
gates_long [] = refl
gates_long (g ∷ gs) = let r = gates_long gs in omega arith

outputs_from : (bs : List ℕ) (c : Content) → encode c ≡ bs → drop (7 + 7 * length c.gates) bs ≡ flat_map output_bytes c.outputs
outputs_from bs c e =
    let n : ℕ = 7 * length c.gates in
    let z : List ℕ = number_bytes (length c.outputs) ++ flat_map output_bytes c.outputs in
    let a : 7 + n ≡ 5 + (n + 2) = omega arith in
    ap (drop (7 + n)) (sym e) ∙ ap (λ m. drop m (encode c)) a ∙ sym (drop-drop (n + 2) 5 (encode c)) ∙ sym (drop-drop 2 n (flat_map gate_bytes c.gates ++ z)) ∙ ap (drop 2) (drop_at (flat_map gate_bytes c.gates) z n (gates_long c.gates))

pub all_ahead : (bs : List ℕ) (s : Shape) (c : Content) (w : OutputRecords) → w.rest.now ≡ drop (7 + 7 * s.gates) bs → w.left ≡ s.outputs → BytesSay bs s c → Ahead w c.outputs
all_ahead bs s c w r l a = record {
  is = r ∙ ap (λ t. drop (7 + 7 * t.gates) bs) a.shape ∙ outputs_from bs c a.again;
  count = sym (l ∙ ap (λ t. t.outputs) a.shape);
}

-- an accepted sheet says what is said of it, and nothing else
pub says_said : (s : Sheet) → Says s (said s)
says_said s = record {
  decodes = ap decode (sym s.again) ∙ decode_encode (said s) s.lawful;
  shape = λ i. record { inputs = s.inputs i; gates = s.gates i; outputs = s.outputs i };
  lawful = s.lawful;
  again = s.again;
}

pub gates_of : (bs : List ℕ) (s : Shape) (c : Content) (w : GateRecords) → w.rest.now ≡ drop 5 bs → w.left ≡ s.gates → BytesSay bs s c → gates_ahead w ≡ c.gates
gates_of bs s c w r l a =
    let e : w.rest.now ≡ flat_map gate_bytes c.gates ++ (number_bytes (length c.outputs) ++ flat_map output_bytes c.outputs) = r ∙ ap (drop 5) (sym a.again) in
    (λ i. gates_in ((l ∙ many_gates bs s c a) i) (e i)) ∙ gates_back c.gates _

item_get : {X : Type 0} (xs : List X) (k : ℕ) → slice_get xs k ≡ item xs k
item_get [] k = refl
item_get (x ∷ xs) zero = refl
item_get (x ∷ xs) (suc k) = item_get xs k

pub output_nth : (r : Option OutputRecord) (os : List Output) (k : ℕ) → option_map output_of r ≡ slice_get os k → output_in r ≡ item os k
output_nth None os k e = e ∙ item_get os k
output_nth (Some o) os k e = e ∙ item_get os k

-- a walk gives the outputs that lie ahead of it
pub walk : (w : OutputRecords) (os : List Output) → outputs_ahead w ≡ os → YieldsList GivesNext output_of w os
walk w os e = subst (YieldsList GivesNext output_of w) e (YieldsList-from_shown GivesNext output_of outputs_ahead (λ s t g. ap length g.0.0) (λ s x t g. g.0) w)
