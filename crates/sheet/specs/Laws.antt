-- The laws of the format.
use Rattle.std.specs.Prelude.{◌≡◌, ℕ, ◌+◌, ◌<◌, true, List, [], ◌∷◌, ◌++◌, length}
use Rattle.std.specs.List.{AllByRecursion}
use Rattle.sheet.specs.Format.{Content, Output, content, encode, decode, operand_fits, name_fits, names}
use Rattle.gates.specs.Kinds.{between, is_kind, reads_b, reads_c}
use Rattle.sheet.specs.declared.gate.Gate.{Gate}

pub record GateFits (own : ℕ) (g : Gate) : Type 0 where
  pub kind : is_kind g.kind ≡ true
  pub a : operand_fits true own g.a ≡ true
  pub b : operand_fits (reads_b g.kind) own g.b ≡ true
  pub c : operand_fits (reads_c g.kind) own g.c ≡ true

pub record OutputFits (signals : ℕ) (earlier : List (List ℕ)) (o : Output) : Type 0 where
  pub signal : operand_fits true signals o.signal ≡ true
  pub long : between 1 16 (length o.name) ≡ true
  pub name : name_fits earlier o.name ≡ true

-- each of `xs` fits, where `done` come before them
abbrev pub EachFits : {X : Type 0} → (List X → X → Type 0) → List X → List X → Type 0
EachFits Fits done [] = Unit {0}
EachFits Fits done (x ∷ xs) = Fits done x × EachFits Fits (done ++ x ∷ []) xs

abbrev pub NextGateFits : ℕ → List Gate → Gate → Type 0
NextGateFits inputs done = GateFits (inputs + 2 + length done)

abbrev pub NextOutputFits : ℕ → List Output → Output → Type 0
NextOutputFits signals done = OutputFits signals (names done)

pub record Lawful (c : Content) : Type 0 where
  pub inputs : between 1 64 c.inputs ≡ true
  pub few_gates : between 0 600 (length c.gates) ≡ true
  pub gates : EachFits (NextGateFits c.inputs) [] c.gates
  pub few_outputs : between 1 256 (length c.outputs) ≡ true
  pub outputs : EachFits (NextOutputFits (c.inputs + 2 + length c.gates)) [] c.outputs

abbrev pub Bytes : List ℕ → Type 0
Bytes bs = AllByRecursion (λ b. b < 256) bs

abbrev pub ReadsWhatIsWritten : Type 0
ReadsWhatIsWritten = (c : Content) → Lawful c → decode (encode c) ≡ content c

abbrev pub WritesWhatIsRead : Type 0
WritesWhatIsRead = (bs : List ℕ) (c : Content) → Bytes bs → decode bs ≡ content c → Lawful c × (encode c ≡ bs)
