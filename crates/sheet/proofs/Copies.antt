-- The steps of writing what an accepted sheet says.
use Rattle.std.proofs.Common.{◌≡◌, ℕ, zero, suc, ◌+◌, ◌<◌, ◌≤◌, Bool, true, false, leb, List, [], ◌∷◌, ◌++◌, length, get_or, take, drop, Some, None, sym, refl, ap, ◌∙◌, subst, append_assoc, append-nil, arith}
use Rattle.std.proofs.lemmas.List.{length-append, take_more, length-take-le, flat_map_more, take_all}
use Rattle.std.proofs.lemmas.Bool.{lt-ltb, leb-false, leb-true, and_parts}
use Rattle.std.specs.List.{flat_map}
use Rattle.gates.specs.Kinds.{between}
use Rattle.sheet.specs.declared.gate.Gate.{Gate}
use Rattle.sheet.specs.declared.refusal.Refusal.{Refusal}
use Rattle.sheet.specs.declared.refusal.Refusal.TheVariants.{Full}
use Rattle.sheet.specs.declared.writer.Gates.{Gates}
use Rattle.sheet.specs.declared.writer.Outputs.{Outputs}
use Rattle.sheet.specs.Flaws.{unless, gate_flaw, output_flaw}
use Rattle.sheet.specs.Format.{Content, Output, output_bytes, encode, names}
use Rattle.sheet.specs.Laws.{EachFits, GateFits, NextGateFits, OutputFits, NextOutputFits, Lawful}
use Rattle.sheet.specs.Refusals.{gate_refusal, first_output_refusal, output_refusal}
use Rattle.sheet.specs.Sections.{item}
use Rattle.sheet.specs.Written.{gates_end, outputs_start, HoldsGates, HoldsOutputs, WroteGate, WroteOutput}
use Rattle.sheet.proofs.Parts.{item_at}
use Rattle.sheet.proofs.Writing.{encode_long}

-- what was given, with its first `k` outputs
abbrev pub with_outputs : Content → ℕ → Content
with_outputs c k = record { inputs = c.inputs; gates = c.gates; outputs = take k c.outputs }

-- the gates are written up to those that lie ahead
pub record GatesSoFar (before : List ℕ) (c : Content) (ahead : List Gate) (place : List ℕ) (w : Gates) : Type 0 where
  pub inputs : w.inputs ≡ c.inputs
  pub holds : HoldsGates before place w (take w.gates c.gates)
  pub rest : ahead ≡ drop w.gates c.gates

-- the outputs are written up to those that lie ahead
pub record OutputsSoFar (before : List ℕ) (c : Content) (ahead : List Output) (place : List ℕ) (w : Outputs) : Type 0 where
  pub holds : HoldsOutputs before place w (with_outputs c w.outputs)
  pub rest : ahead ≡ drop w.outputs c.outputs

-- the next of what lies ahead
pub record Turn {X : Type 0} (xs : List X) (k : ℕ) (x : X) (rest : List X) : Type 0 where
  pub inside : k < length xs
  pub item : Some x ≡ item xs k
  pub others : rest ≡ drop (k + 1) xs

turn : {X : Type 0} (xs : List X) (k : ℕ) (x : X) (rest : List X) → x ∷ rest ≡ drop k xs → Turn xs k x rest
turn [] zero x rest e = absurd (cc)
turn [] (suc k) x rest e = absurd (cc)
turn (y ∷ xs) zero x rest e = record { inside = omega arith; item = (cc); others = (cc) }
turn (y ∷ xs) (suc k) x rest e = let t = turn xs k x rest e in record { inside = omega (arith, t.inside); item = t.item; others = t.others ∙ (let n : suc (k + 1) ≡ suc k + 1 = omega arith in ap (λ m. drop m (y ∷ xs)) n) }

over : {X : Type 0} (xs : List X) (k : ℕ) → [] ≡ drop k xs → length xs ≤ k
over [] k e = omega arith
over (y ∷ xs) zero e = absurd (cc)
over (y ∷ xs) (suc k) e = omega (arith, over xs k e)

-- a record that comes in its turn fits
fits_at : {X : Type 0} (Fits : List X → X → Type 0) (done xs : List X) (k : ℕ) (d : X) → EachFits Fits done xs → k < length xs → Fits (done ++ take k xs) (get_or xs k d)
fits_at Fits done [] k d f h = absurd (omega arith)
fits_at Fits done (x ∷ xs) zero d f h = subst (λ l. Fits l x) (sym (append-nil done)) f.0
fits_at Fits done (x ∷ xs) (suc k) d f h = subst (λ l. Fits l (get_or xs k d)) (append_assoc done (x ∷ []) (take k xs)) (fits_at Fits (done ++ x ∷ []) xs k d f.1 (omega arith))

item_is : {X : Type 0} (xs : List X) (k : ℕ) (x : X) → k < length xs → Some x ≡ item xs k → x ≡ get_or xs k x
item_is xs k x h e = let q : Some x ≡ Some (get_or xs k x) = e ∙ sym (item_at xs k x h) in cc

taken : {X : Type 0} (xs : List X) (k : ℕ) (x : X) → k < length xs → Some x ≡ item xs k → take k xs ++ x ∷ [] ≡ take (k + 1) xs
taken xs k x h e = ap (λ y. take k xs ++ y ∷ []) (item_is xs k x h e) ∙ sym (take_more xs k x h)

unless_some : {X : Type 0} (b : Bool) (x e : X) → Some e ≡ unless b x → (e ≡ x) × (b ≡ false)
unless_some true x e p = absurd (cc)
unless_some false x e p = ((cc), refl)

only_full : (n room : ℕ) (e : Refusal) → Some e ≡ unless (leb n room) Full → (e ≡ Full) × (room < n)
only_full n room e p = let q = unless_some (leb n room) Full e p in (q.0, leb-false n room q.1)

few : (low high n : ℕ) → between low high n ≡ true → n ≤ high
few low high n e = leb-true n high (and_parts (leb low n) (leb n high) e).1

-- gates
flaw_none : (own : ℕ) (g : Gate) → GateFits own g → None ≡ gate_flaw own g
flaw_none own g f = simp (f.kind, f.a, f.b, f.c)

gate_fits : (c : Content) (k : ℕ) (w : Gates) (g : Gate) → Lawful c → k < length c.gates → Some g ≡ item c.gates k → w.inputs ≡ c.inputs → w.gates ≡ k → GateFits (w.inputs + 2 + w.gates) g
gate_fits c k w g l h e i n =
    let f = fits_at (NextGateFits c.inputs) [] c.gates k g l.gates h in
    let m : length (take k c.gates) ≡ k = length-take-le k c.gates (omega arith) in
    let own : c.inputs + 2 + length (take k c.gates) ≡ w.inputs + 2 + w.gates = omega (arith, m, i, n) in
    let P : ℕ → Type 0 = λ z. GateFits z (get_or c.gates k g) in
    subst (GateFits (w.inputs + 2 + w.gates)) (sym (item_is c.gates k g h e)) (subst P own f)

gate_room : (c : Content) (k : ℕ) → k < length c.gates → gates_end k + 7 ≤ length (encode c)
gate_room c k h = omega (arith, encode_long c)

full_at_gate : (before place : List ℕ) (c : Content) (k : ℕ) (w : Gates) (g : Gate) (e : Refusal) → Lawful c → k < length c.gates → Some g ≡ item c.gates k → w.inputs ≡ c.inputs → HoldsGates before place w (take k c.gates)
    → Some e ≡ gate_refusal (length place) w g → (e ≡ Full) × (length place < length (encode c))
full_at_gate before place c k w g e l h i same holds r =
    let m : length (take k c.gates) ≡ k = length-take-le k c.gates (omega arith) in
    let n : w.gates ≡ k = sym holds.many ∙ m in
    let fits = gate_fits c k w g l h i same n in
    let small : w.gates < 600 = omega (arith, n, few 0 600 (length c.gates) l.few_gates) in
    let none : gate_flaw (w.inputs + 2 + w.gates) g ≡ None = sym (flaw_none (w.inputs + 2 + w.gates) g fits) in
    let is : gate_refusal (length place) w g ≡ unless (leb (gates_end w.gates + 7) (length place)) Full = simp (lt-ltb w.gates 600 small, none) in
    let q = only_full (gates_end w.gates + 7) (length place) e (r ∙ is) in
    (q.0, omega (arith, q.1, n, gate_room c k h))

pub one_more_gate : (before place after : List ℕ) (c : Content) (ahead rest : List Gate) (w v : Gates) (g : Gate) → GatesSoFar before c ahead place w → ahead ≡ g ∷ rest → WroteGate place w g v after → GatesSoFar before c rest after v
one_more_gate before place after c ahead rest w v g s e wrote =
    let t = turn c.gates w.gates g rest (sym e ∙ s.rest) in
    let holds : HoldsGates before after v (take (w.gates + 1) c.gates) = subst (HoldsGates before after v) (taken c.gates w.gates g t.inside t.item) (wrote.holds before (take w.gates c.gates) s.holds) in
    record {
      inputs = wrote.inputs ∙ s.inputs;
      holds = subst (λ n. HoldsGates before after v (take n c.gates)) (sym wrote.gates) holds;
      rest = t.others ∙ ap (λ n. drop n c.gates) (sym wrote.gates);
    }

pub all_gates : (before place : List ℕ) (c : Content) (ahead : List Gate) (w : Gates) → GatesSoFar before c ahead place w → ahead ≡ [] → (w.inputs ≡ c.inputs) × HoldsGates before place w c.gates
all_gates before place c ahead w s e = (s.inputs, subst (HoldsGates before place w) (take_all w.gates c.gates (over c.gates w.gates (sym e ∙ s.rest))) s.holds)

pub no_room_for_gate : (before place : List ℕ) (c : Content) (ahead rest : List Gate) (w : Gates) (g : Gate) (e : Refusal) → Lawful c → GatesSoFar before c ahead place w → ahead ≡ g ∷ rest
    → Some e ≡ gate_refusal (length place) w g → (e ≡ Full) × (length place < length (encode c))
no_room_for_gate before place c ahead rest w g e l s h r =
    let t = turn c.gates w.gates g rest (sym h ∙ s.rest) in
    full_at_gate before place c w.gates w g e l t.inside t.item s.inputs s.holds r

-- outputs
no_output_flaw : (signals : ℕ) (earlier : List (List ℕ)) (o : Output) → OutputFits signals earlier o → output_flaw signals earlier o ≡ None
no_output_flaw signals earlier o f = simp (f.signal, f.long, f.name)

output_fits : (c : Content) (k signals : ℕ) (o : Output) → Lawful c → k < length c.outputs → Some o ≡ item c.outputs k → c.inputs + 2 + length c.gates ≡ signals → OutputFits signals (names (take k c.outputs)) o
output_fits c k signals o l h e s =
    let f = fits_at (NextOutputFits (c.inputs + 2 + length c.gates)) [] c.outputs k o l.outputs h in
    let P : ℕ → Type 0 = λ z. OutputFits z (names (take k c.outputs)) (get_or c.outputs k o) in
    subst (OutputFits signals (names (take k c.outputs))) (sym (item_is c.outputs k o h e)) (subst P s f)

-- the first outputs take no more bytes than all
joined_part : (os : List Output) (n : ℕ) → length (flat_map output_bytes (take n os)) ≤ length (flat_map output_bytes os)
joined_part [] zero = omega arith
joined_part [] (suc n) = omega arith
joined_part (o ∷ os) zero = omega arith
joined_part (o ∷ os) (suc n) =
    let r = joined_part os n in
    omega (arith, length-append o.name (flat_map output_bytes (take n os)), length-append o.name (flat_map output_bytes os))

joined_push : (os : List Output) (o : Output) → length (flat_map output_bytes (os ++ o ∷ [])) ≡ length (flat_map output_bytes os) + length (output_bytes o)
joined_push os o = ap length (sym (flat_map_more output_bytes [] os o)) ∙ length-append (flat_map output_bytes os) (output_bytes o)

output_room : (c : Content) (k : ℕ) (o : Output) → k < length c.outputs → Some o ≡ item c.outputs k → length (encode (with_outputs c k)) + length (output_bytes o) ≤ length (encode c)
output_room c k o h e =
    let t = ap (λ os. length (flat_map output_bytes os)) (taken c.outputs k o h e) in
    omega (arith, encode_long c, encode_long (with_outputs c k), joined_push (take k c.outputs) o, t, joined_part c.outputs (k + 1))

pub no_room_for_first : (before place : List ℕ) (c : Content) (ahead rest : List Output) (w : Gates) (o : Output) (e : Refusal) → Lawful c → ahead ≡ c.outputs → ahead ≡ o ∷ rest → w.inputs ≡ c.inputs → HoldsGates before place w c.gates
    → Some e ≡ first_output_refusal (length place) w o → (e ≡ Full) × (length place < length (encode c))
no_room_for_first before place c ahead rest w o e l a n same holds r =
    let t = turn c.outputs 0 o rest (sym n ∙ a) in
    let h = t.inside in
    let i : Some o ≡ item c.outputs 0 = t.item in
    let own : c.inputs + 2 + length c.gates ≡ w.inputs + 2 + w.gates = omega (arith, same, holds.many) in
    let none : output_flaw (w.inputs + 2 + w.gates) [] o ≡ None = no_output_flaw (w.inputs + 2 + w.gates) [] o (output_fits c 0 (w.inputs + 2 + w.gates) o l h i own) in
    let is : first_output_refusal (length place) w o ≡ unless (leb (outputs_start w.gates + length (output_bytes o)) (length place)) Full = simp none in
    let q = only_full (outputs_start w.gates + length (output_bytes o)) (length place) e (r ∙ is) in
    (q.0, omega (arith, q.1, holds.many, output_room c 0 o h i, encode_long (with_outputs c 0)))

pub one_more_output : (before place after : List ℕ) (c : Content) (ahead rest : List Output) (w v : Outputs) (o : Output) → OutputsSoFar before c ahead place w → ahead ≡ o ∷ rest → WroteOutput place w o v after → OutputsSoFar before c rest after v
one_more_output before place after c ahead rest w v o s e wrote =
    let t = turn c.outputs w.outputs o rest (sym e ∙ s.rest) in
    let holds : HoldsOutputs before after v (with_outputs c (w.outputs + 1)) =
    subst (HoldsOutputs before after v) (λ i. record { inputs = c.inputs; gates = c.gates; outputs = taken c.outputs w.outputs o t.inside t.item i }) (wrote.holds before (with_outputs c w.outputs) s.holds) in
    record {
      holds = subst (λ n. HoldsOutputs before after v (with_outputs c n)) (sym wrote.outputs) holds;
      rest = t.others ∙ ap (λ n. drop n c.outputs) (sym wrote.outputs);
    }

pub no_room_for_output : (before place : List ℕ) (c : Content) (ahead rest : List Output) (w : Outputs) (o : Output) (e : Refusal) → Lawful c → OutputsSoFar before c ahead place w → ahead ≡ o ∷ rest
    → Some e ≡ output_refusal (length place) w (names (take w.outputs c.outputs)) o → (e ≡ Full) × (length place < length (encode c))
no_room_for_output before place c ahead rest w o e l half a p =
    let t = turn c.outputs w.outputs o rest (sym a ∙ half.rest) in
    let k : ℕ = w.outputs in
    let h : k < length c.outputs = t.inside in
    let i : Some o ≡ item c.outputs k = t.item in
    let small : w.outputs < 256 = omega (arith, few 1 256 (length c.outputs) l.few_outputs) in
    let own : c.inputs + 2 + length c.gates ≡ w.inputs + 2 + w.gates = omega (arith, half.holds.inputs, half.holds.gates) in
    let none : output_flaw (w.inputs + 2 + w.gates) (names (take k c.outputs)) o ≡ None = no_output_flaw (w.inputs + 2 + w.gates) (names (take k c.outputs)) o (output_fits c k (w.inputs + 2 + w.gates) o l h i own) in
    let is : output_refusal (length place) w (names (take k c.outputs)) o ≡ unless (leb (w.end + length (output_bytes o)) (length place)) Full = simp (lt-ltb w.outputs 256 small, none) in
    let q = only_full (w.end + length (output_bytes o)) (length place) e (p ∙ is) in
    (q.0, omega (arith, q.1, half.holds.end, output_room c k o h i))

-- the whole sheet
pub all_outputs : (before place : List ℕ) (c : Content) (ahead : List Output) (w : Outputs) → OutputsSoFar before c ahead place w → ahead ≡ [] → HoldsOutputs before place w c
all_outputs before place c ahead w s e =
    let all = take_all w.outputs c.outputs (over c.outputs w.outputs (sym e ∙ s.rest)) in
    subst (HoldsOutputs before place w) (λ i. record { inputs = c.inputs; gates = c.gates; outputs = all i }) s.holds
