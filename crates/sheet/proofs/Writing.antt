-- What a writer's calls keep: the place holds the sheet written so far, and is as it was behind it.
use Rattle.std.proofs.Common.{◌≡◌, ℕ, ◌+◌, ◌*◌, ◌<◌, ◌≤◌, Bool, true, false, ltb, List, [], ◌∷◌, ◌++◌, length, take, drop, None, Option, sym, refl, ap, ◌∙◌, subst, append_assoc, append-nil, arith}
use Rattle.sheet.specs.declared.fault.Flaw.{Flaw}
use Rattle.sheet.specs.declared.fault.Flaw.TheVariants.{Name, Signal}
use Rattle.sheet.specs.declared.output_records.OutputRecords.{OutputRecords}
use Rattle.sheet.specs.Ahead.{outputs_in, outputs_ahead}
use Rattle.sheet.proofs.Parts.{outputs_back, gates_long}
use Rattle.std.specs.List.{flat_map}
use Rattle.std.proofs.lemmas.List.{drop-drop, length-append, length_push, take_at, drop_at, flat_map_more, length-take-le}
use Rattle.std.proofs.lemmas.Bool.Decides.{nat_tests}
use Rattle.sheet.specs.declared.writer.Outputs.{Outputs}
use Rattle.sheet.specs.declared.gate.Gate.{Gate}
use Rattle.sheet.specs.declared.writer.Gates.{Gates}
use Rattle.sheet.specs.Format.{gate_bytes, number_bytes, Output, output_bytes, Content, encode, decode, names, name_fits}
use Rattle.gates.specs.Kinds.{between}
use Rattle.sheet.proofs.Back.{decode_encode}
use Rattle.sheet.specs.Laws.{GateFits, NextGateFits, EachFits, OutputFits, NextOutputFits}
use Rattle.sheet.specs.Written.{put, gates_end, outputs_start, front, HoldsGates, HoldsOutputs, named, more_outputs}
use Rattle.sheet.specs.declared.writer.Closed.{Closed}
use Rattle.sheet.specs.Closing.{HoldsSheet}
use Rattle.sheet.specs.Trips.{ReadAsGiven}
use Rattle.sheet.specs.Flaws.{unless, first_some, output_flaw}

-- bytes put after a front that is kept
pub put_after : (p t bs xs : List ℕ) (at : ℕ) → xs ≡ p ++ t → length p ≡ at → put xs at bs ≡ p ++ (bs ++ drop (length bs) t)
put_after p t bs xs at e l =
    let a : take at xs ≡ p = ap (take at) e ∙ take_at p t at l in
    let b : drop (at + length bs) xs ≡ drop (length bs) t = sym (drop-drop (length bs) at xs) ∙ ap (drop (length bs)) (ap (drop at) e ∙ drop_at p t at l) in
    λ i. a i ++ (bs ++ b i)

pub each_push : {X : Type 0} (Fits : List X → X → Type 0) (done xs : List X) (x : X) → EachFits Fits done xs → Fits (done ++ xs) x → EachFits Fits done (xs ++ x ∷ [])
each_push Fits done [] x f h = (subst (λ l. Fits l x) (append-nil done) h, tt)
each_push Fits done (y ∷ xs) x f h = (f.0, each_push Fits (done ++ y ∷ []) xs x f.1 (subst (λ l. Fits l x) (sym (append_assoc done (y ∷ []) xs)) h))

-- what lies behind a record that is written
behind : (n m k : ℕ) (before : List ℕ) → n + m ≡ k → drop m (drop n before) ≡ drop k before
behind n m k before e = drop-drop m n before ∙ ap (λ z. drop z before) e

pub add_gate : (place after : List ℕ) (w v : Gates) (g : Gate) → v.inputs ≡ w.inputs → v.gates ≡ w.gates + 1 → GateFits (w.inputs + 2 + w.gates) g
    → after ≡ put (put place (gates_end w.gates) (gate_bytes g)) 3 (number_bytes (w.gates + 1))
    → (before : List ℕ) (gs : List Gate) → HoldsGates before place w gs → HoldsGates before after v (gs ++ g ∷ [])
add_gate place after w v g same more fits e before gs h =
    let at : ℕ = gates_end w.gates in
    let rest : List ℕ = drop at before in
    let long : length (front w.inputs gs) ≡ at = omega (arith, gates_long gs, h.many) in
    let s₁ : put place at (gate_bytes g) ≡ front w.inputs gs ++ (gate_bytes g ++ drop 7 rest) = put_after (front w.inputs gs) rest (gate_bytes g) place at h.is long in
    let F : List ℕ → List ℕ = λ l. put l 3 (number_bytes (w.gates + 1)) in
    let n : length (gs ++ g ∷ []) ≡ w.gates + 1 = length_push gs g ∙ ap (λ m. m + 1) h.many in
    let d : drop 7 rest ≡ drop (gates_end v.gates) before = behind at 7 (gates_end v.gates) before (omega (arith, more)) in
    let j : flat_map gate_bytes gs ++ (gate_bytes g ++ drop 7 rest) ≡ flat_map gate_bytes (gs ++ g ∷ []) ++ drop (gates_end v.gates) before =
    sym (append_assoc (flat_map gate_bytes gs) (gate_bytes g) (drop 7 rest)) ∙ (λ i. flat_map_more gate_bytes [] gs g i ++ d i) in
    record {
      is = e ∙ ap F s₁ ∙ (λ i. 1 ∷ number_bytes (sym same i) ++ (number_bytes (sym n i) ++ j i));
      many = n ∙ sym more;
      some = ap (between 1 64) same ∙ h.some;
      fits = subst (λ k. EachFits (NextGateFits k) [] (gs ++ g ∷ [])) (sym same) (each_push (NextGateFits w.inputs) [] gs g h.fits (subst (λ k. GateFits (w.inputs + 2 + k) g) (sym h.many) fits));
    }

pub three : (p₀ p₁ p₂ p₃ : List ℕ) (at s : ℕ) (name : List ℕ) → at + 3 + length name ≤ length p₀
    → p₁ ≡ put p₀ at (number_bytes s)
    → p₂ ≡ put p₁ (at + 2) (length name ∷ [])
    → p₃ ≡ put p₂ (at + 3) name
    → p₃ ≡ put p₀ at (output_bytes (named s name))
three p₀ p₁ p₂ p₃ at s name h e₁ e₂ e₃ =
    let A : List ℕ = take at p₀ in
    let B : List ℕ = A ++ number_bytes s in
    let C : List ℕ = B ++ length name ∷ [] in
    let la : length A ≡ at = length-take-le at p₀ (omega arith) in
    let lb : length B ≡ at + 2 = length-append A (number_bytes s) ∙ (omega (arith, la)) in
    let lc : length C ≡ at + 3 = length-append B (length name ∷ []) ∙ (omega (arith, lb)) in
    let s₁ : p₁ ≡ B ++ drop (at + 2) p₀ = e₁ ∙ sym (append_assoc A (number_bytes s) (drop (at + 2) p₀)) in
    let s₂ : p₂ ≡ C ++ drop 1 (drop (at + 2) p₀) = e₂ ∙ put_after B (drop (at + 2) p₀) (length name ∷ []) p₁ (at + 2) s₁ lb ∙ sym (append_assoc B (length name ∷ []) (drop 1 (drop (at + 2) p₀))) in
    let s₃ : p₃ ≡ C ++ (name ++ drop (length name) (drop 1 (drop (at + 2) p₀))) = e₃ ∙ put_after C (drop 1 (drop (at + 2) p₀)) name p₂ (at + 3) s₂ lc in
    let k : at + 2 + 1 + length name ≡ at + length (output_bytes (named s name)) = omega arith in
    let d : drop (length name) (drop 1 (drop (at + 2) p₀)) ≡ drop (at + length (output_bytes (named s name))) p₀ = ap (drop (length name)) (drop-drop 1 (at + 2) p₀) ∙ drop-drop (length name) (at + 2 + 1) p₀ ∙ ap (λ n. drop n p₀) k in
    s₃ ∙ ap (λ l. C ++ (name ++ l)) d ∙ append_assoc B (length name ∷ []) _ ∙ append_assoc A (number_bytes s) _

encode_from : (c : Content) (ys : List ℕ) → encode c ++ ys ≡ front c.inputs c.gates ++ (number_bytes (length c.outputs) ++ (flat_map output_bytes c.outputs ++ ys))
encode_from c ys = simp append_assoc

front_long : (i : ℕ) (gs : List Gate) → length (front i gs) ≡ 5 + 7 * length gs
front_long i gs = omega (arith, gates_long gs)

pub encode_long : (c : Content) → length (encode c) ≡ 7 + 7 * length c.gates + length (flat_map output_bytes c.outputs)
encode_long c = omega (arith, gates_long c.gates, length-append (flat_map gate_bytes c.gates) (number_bytes (length c.outputs) ++ flat_map output_bytes c.outputs))

pub start_outputs : (place after : List ℕ) (w : Gates) (v : Outputs) (o : Output) → v.inputs ≡ w.inputs → v.gates ≡ w.gates → v.outputs ≡ 1 → v.end ≡ outputs_start w.gates + length (output_bytes o)
    → OutputFits (w.inputs + 2 + w.gates) [] o
    → after ≡ put (put place (gates_end w.gates) (number_bytes 1)) (outputs_start w.gates) (output_bytes o)
    → (before : List ℕ) (gs : List Gate) → HoldsGates before place w gs → HoldsOutputs before after v (record { inputs = w.inputs; gates = gs; outputs = o ∷ [] })
start_outputs place after w v o si sg so se fits e before gs h =
    let at : ℕ = gates_end w.gates in
    let rest : List ℕ = drop at before in
    let c : Content = record { inputs = w.inputs; gates = gs; outputs = o ∷ [] } in
    let F : List ℕ = front w.inputs gs in
    let lf : length F ≡ at = front_long w.inputs gs ∙ ap (λ n. 5 + 7 * n) h.many in
    let p₁ : List ℕ = put place at (number_bytes 1) in
    let s₁ : p₁ ≡ (F ++ number_bytes 1) ++ drop 2 rest = put_after F rest (number_bytes 1) place at h.is lf ∙ sym (append_assoc F (number_bytes 1) (drop 2 rest)) in
    let lg : length (F ++ number_bytes 1) ≡ at + 2 = length-append F (number_bytes 1) ∙ omega (arith, lf) in
    let R : List ℕ = drop v.end before in
    let d : drop (length (output_bytes o)) (drop 2 rest) ≡ R =
    ap (drop (length (output_bytes o))) (behind at 2 (at + 2) before refl) ∙ behind (at + 2) (length (output_bytes o)) v.end before (sym se) in
    let s₂ : after ≡ (F ++ number_bytes 1) ++ (output_bytes o ++ R) =
    e ∙ put_after (F ++ number_bytes 1) (drop 2 rest) (output_bytes o) p₁ (at + 2) s₁ lg ∙ ap (λ l. (F ++ number_bytes 1) ++ (output_bytes o ++ l)) d in
    let z : flat_map output_bytes (o ∷ []) ++ R ≡ output_bytes o ++ R = ap (λ l. l ++ R) (append-nil (output_bytes o)) in
    record {
      is = s₂ ∙ append_assoc F (number_bytes 1) (output_bytes o ++ R) ∙ ap (λ l. F ++ (number_bytes 1 ++ l)) (sym z) ∙ sym (encode_from c R);
      end = encode_long c ∙ omega (arith, se, h.many, ap length (append-nil (output_bytes o)));
      inputs = sym si;
      gates = h.many ∙ sym sg;
      outputs = sym so;
      lawful = record {
        inputs = h.some;
        few_gates = grind (arith, nat_tests, h.many, w.few_gates);
        gates = h.fits;
        few_outputs = refl;
        outputs = (subst (λ n. OutputFits (w.inputs + 2 + n) [] o) (sym h.many) fits, tt);
      };
    }

flaw_parts : (a b d : Bool) → first_some (unless a Signal) (first_some (unless b Name) (unless d Name)) ≡ None → (a ≡ true) × (b ≡ true) × (d ≡ true)
flaw_parts true true true e = (refl, refl, refl)
flaw_parts true true false e = absurd (cc)
flaw_parts true false d e = absurd (cc)
flaw_parts false b d e = absurd (cc)

pub no_flaw : (signals : ℕ) (earlier : List (List ℕ)) (o : Output) → output_flaw signals earlier o ≡ None → OutputFits signals earlier o
no_flaw signals earlier o e = let p = flaw_parts (ltb o.signal signals) (between 1 16 (length o.name)) (name_fits earlier o.name) e in record { signal = p.0; long = p.1; name = p.2 }

pub record Held (place : List ℕ) (w : Outputs) (c : Content) : Type 0 where
  pub ends : w.end ≤ length place
  pub earlier : outputs_in w.outputs (drop (5 + 7 * w.gates + 2) place) ≡ c.outputs
  pub whole : take w.end place ≡ encode c

pub held : (before place : List ℕ) (w : Outputs) (c : Content) → HoldsOutputs before place w c → Held place w c
held before place w c h =
    let n : length (front c.inputs c.gates) ≡ 5 + 7 * w.gates = front_long c.inputs c.gates ∙ ap (λ n. 5 + 7 * n) h.gates in
    let rest : List ℕ = drop w.end before in
    let X : List ℕ = flat_map output_bytes c.outputs ++ rest in
    let s : place ≡ front c.inputs c.gates ++ (number_bytes (length c.outputs) ++ X) = h.is ∙ encode_from c rest in
    let d : drop (5 + 7 * w.gates + 2) place ≡ X = sym (drop-drop 2 (5 + 7 * w.gates) place) ∙ ap (drop 2) (ap (drop (5 + 7 * w.gates)) s ∙ drop_at (front c.inputs c.gates) (number_bytes (length c.outputs) ++ X) (5 + 7 * w.gates) n) in
    let l : length place ≡ length (encode c) + length rest = ap length h.is ∙ length-append (encode c) rest in
    record {
      ends = omega (arith, l, h.end);
      earlier = (λ i. outputs_in (sym h.outputs i) (d i)) ∙ outputs_back c.outputs rest;
      whole = ap (take w.end) h.is ∙ take_at (encode c) rest w.end h.end;
    }

pub add_output : (place after : List ℕ) (w v : Outputs) (o : Output) → v.inputs ≡ w.inputs → v.gates ≡ w.gates → v.outputs ≡ w.outputs + 1 → v.end ≡ w.end + length (output_bytes o)
    → after ≡ put (put place w.end (output_bytes o)) (gates_end w.gates) (number_bytes (w.outputs + 1))
    → w.outputs < 256 → (before : List ℕ) (c : Content) → OutputFits (w.inputs + 2 + w.gates) (names c.outputs) o → HoldsOutputs before place w c → HoldsOutputs before after v (more_outputs c o)
add_output place after w v o si sg so se e few before c fits h =
    let at : ℕ = gates_end w.gates in
    let F : List ℕ = front c.inputs c.gates in
    let os : List Output = c.outputs ++ o ∷ [] in
    let lf : length F ≡ at = front_long c.inputs c.gates ∙ ap (λ n. 5 + 7 * n) h.gates in
    let R : List ℕ = drop v.end before in
    let d : drop (length (output_bytes o)) (drop w.end before) ≡ R = behind w.end (length (output_bytes o)) v.end before (sym se) in
    let p₁ : List ℕ = put place w.end (output_bytes o) in
    let s₁ : p₁ ≡ encode c ++ (output_bytes o ++ R) = put_after (encode c) (drop w.end before) (output_bytes o) place w.end h.is h.end ∙ ap (λ l. encode c ++ (output_bytes o ++ l)) d in
    let X : List ℕ = flat_map output_bytes c.outputs ++ (output_bytes o ++ R) in
    let s₂ : p₁ ≡ F ++ (number_bytes (length c.outputs) ++ X) = s₁ ∙ encode_from c (output_bytes o ++ R) in
    let s₃ : after ≡ F ++ (number_bytes (w.outputs + 1) ++ X) = e ∙ put_after F (number_bytes (length c.outputs) ++ X) (number_bytes (w.outputs + 1)) p₁ at s₂ lf in
    let j : X ≡ flat_map output_bytes os ++ R = sym (append_assoc (flat_map output_bytes c.outputs) (output_bytes o) R) ∙ ap (λ l. l ++ R) (flat_map_more output_bytes [] c.outputs o) in
    let n : length os ≡ w.outputs + 1 = length_push c.outputs o ∙ ap (λ m. m + 1) h.outputs in
    let jl = ap length (flat_map_more output_bytes [] c.outputs o) in
    let ja = length-append (flat_map output_bytes c.outputs) (output_bytes o) in
    let long : length (encode (more_outputs c o)) ≡ v.end = omega (arith, encode_long (more_outputs c o), encode_long c, jl, ja, h.end, se) in
    let some : between 1 256 (length os) ≡ true = grind (arith, nat_tests, n, few) in
    record {
      is = s₃ ∙ (λ i. F ++ (number_bytes (sym n i) ++ j i)) ∙ sym (encode_from (more_outputs c o) R);
      end = long;
      inputs = h.inputs ∙ sym si;
      gates = h.gates ∙ sym sg;
      outputs = n ∙ sym so;
      lawful = record {
        inputs = h.lawful.inputs;
        few_gates = h.lawful.few_gates;
        gates = h.lawful.gates;
        few_outputs = some;
        outputs = each_push (NextOutputFits (c.inputs + 2 + length c.gates)) [] c.outputs o h.lawful.outputs (subst (λ z. OutputFits z (names c.outputs) o) (λ i. sym h.inputs i + 2 + sym h.gates i) fits);
      };
    }

-- the flaw that was found among the bytes is the one among the names
pub flaw_as : (before place : List ℕ) (earlier : OutputRecords) (w : Outputs) (c : Content) (signals at : ℕ) (o : Output) (q : Option Flaw) → signals ≡ w.inputs + 2 + w.gates → at ≡ gates_end w.gates → earlier.rest.now ≡ drop (at + 2) place → earlier.left ≡ w.outputs
    → q ≡ output_flaw signals (names (outputs_ahead earlier)) o → HoldsOutputs before place w c → output_flaw (w.inputs + 2 + w.gates) (names c.outputs) o ≡ q
flaw_as before place earlier w c signals at o q s t r l e h =
    let k = held before place w c h in
    let same : outputs_ahead earlier ≡ c.outputs = (λ i. outputs_in (l i) ((r ∙ ap (λ n. drop (n + 2) place) t) i)) ∙ k.earlier in
    ap (λ n. output_flaw n (names c.outputs) o) (sym s) ∙ sym (e ∙ ap (λ os. output_flaw signals (names os) o) same)

pub closed : (before place : List ℕ) (w : Outputs) (v : Closed) (c : Content) → v.size ≡ w.end → HoldsOutputs before place w c → HoldsSheet before place v c
closed before place w v c b h =
    let e : take v.size place ≡ encode c = ap (λ n. take n place) b ∙ (held before place w c h).whole in
    record {
      is = e;
      reads = ap decode e ∙ decode_encode c h.lawful;
      behind = h.is ∙ ap (λ n. encode c ++ drop n before) (sym b);
    }

pub read_as_given : ReadAsGiven
read_as_given before place w c h = ap decode (held before place w c h).whole ∙ decode_encode c h.lawful
