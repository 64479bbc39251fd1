-- What a writer's calls write, refuse and keep.
use Rattle.std.specs.Prelude.{◌≡◌, ℕ, ◌+◌, ◌*◌, ◌<◌, ◌≤◌, true, List, [], ◌∷◌, ◌++◌, length, drop, Ok, Err, Result}
use Rattle.gates.specs.Kinds.{between}
use Rattle.std.specs.List.{flat_map}
use Rattle.sheet.specs.declared.gate.Gate.{Gate}
use Rattle.sheet.specs.declared.refusal.Refused.{Refused}
use Rattle.sheet.specs.declared.writer.Opened.{Opened}
use Rattle.sheet.specs.declared.writer.Gates.{Gates}
use Rattle.sheet.specs.declared.writer.Outputs.{Outputs}
use Rattle.sheet.specs.Format.{number_bytes, gate_bytes, Output, Content, output_bytes, encode}
use Rattle.sheet.specs.Laws.{GateFits, NextGateFits, OutputFits, EachFits, Lawful}
pub use Rattle.sheet.specs.Places.{put}

-- where the gate records end, and where the output records start
abbrev pub gates_end : ℕ → ℕ
gates_end gates = 5 + 7 * gates

abbrev pub outputs_start : ℕ → ℕ
outputs_start gates = gates_end gates + 2

-- the bytes of a sheet up to its gates
abbrev pub front : ℕ → List Gate → List ℕ
front inputs gs = 1 ∷ number_bytes inputs ++ (number_bytes (length gs) ++ flat_map gate_bytes gs)

-- the place that held `before` when the writer began holds a sheet with these gates, as far as it is written, and is untouched behind it
pub record HoldsGates (before place : List ℕ) (w : Gates) (gs : List Gate) : Type 0 where
  pub is : place ≡ front w.inputs gs ++ drop (gates_end w.gates) before
  pub many : length gs ≡ w.gates
  pub some : between 1 64 w.inputs ≡ true
  pub fits : EachFits (NextGateFits w.inputs) [] gs

-- the same for a sheet that says `c`
pub record HoldsOutputs (before place : List ℕ) (w : Outputs) (c : Content) : Type 0 where
  pub is : place ≡ encode c ++ drop w.end before
  pub end : length (encode c) ≡ w.end
  pub inputs : c.inputs ≡ w.inputs
  pub gates : length c.gates ≡ w.gates
  pub outputs : length c.outputs ≡ w.outputs
  pub lawful : Lawful c

-- writing the number of inputs
abbrev pub Opening : List ℕ → ℕ → Result Gates (Refused Opened) → List ℕ → Type 0
Opening place inputs (Ok w) after = (w.inputs ≡ inputs) × HoldsGates place after w []
Opening place inputs (Err e) after = after ≡ place

-- there is room for a gate, which fits
pub record RoomForGate (w : Gates) (g : Gate) (size place : ℕ) : Type 0 where
  pub at : place ≡ gates_end w.gates
  pub few : w.gates < 600
  pub fits : GateFits (w.inputs + 2 + w.gates) g
  pub room : place + 7 ≤ size

-- a gate written: the state after it, the bytes, and the sheet
pub record WroteGate (place : List ℕ) (w : Gates) (g : Gate) (v : Gates) (after : List ℕ) : Type 0 where
  pub inputs : v.inputs ≡ w.inputs
  pub gates : v.gates ≡ w.gates + 1
  pub writes : after ≡ put (put place (gates_end w.gates) (gate_bytes g)) 3 (number_bytes (w.gates + 1))
  pub holds : (before : List ℕ) (gs : List Gate) → HoldsGates before place w gs → HoldsGates before after v (gs ++ g ∷ [])

abbrev pub AddingGate : List ℕ → Gates → Gate → Result Gates (Refused Gates) → List ℕ → Type 0
AddingGate place w g (Ok v) after = WroteGate place w g v after
AddingGate place w g (Err e) after = (after ≡ place) × (e.writer ≡ w)

abbrev pub named : ℕ → List ℕ → Output
named signal name = record { signal = signal; name = name }

-- there is room for the first output, which fits and ends there
pub record RoomForFirst (w : Gates) (o : Output) (size place : ℕ) : Type 0 where
  pub end : place ≡ outputs_start w.gates + length (output_bytes o)
  pub fits : OutputFits (w.inputs + 2 + w.gates) [] o
  pub short : length o.name ≤ 16
  pub room : place ≤ size

-- the first output written, and the count before it
pub record WroteFirst (place : List ℕ) (w : Gates) (o : Output) (v : Outputs) (after : List ℕ) : Type 0 where
  pub inputs : v.inputs ≡ w.inputs
  pub gates : v.gates ≡ w.gates
  pub outputs : v.outputs ≡ 1
  pub end : v.end ≡ outputs_start w.gates + length (output_bytes o)
  pub writes : after ≡ put (put place (gates_end w.gates) (number_bytes 1)) (outputs_start w.gates) (output_bytes o)
  pub holds : (before : List ℕ) (gs : List Gate) → HoldsGates before place w gs → HoldsOutputs before after v (record { inputs = w.inputs; gates = gs; outputs = o ∷ [] })

abbrev pub Starting : List ℕ → Gates → Output → Result Outputs (Refused Gates) → List ℕ → Type 0
Starting place w o (Ok v) after = WroteFirst place w o v after
Starting place w o (Err e) after = (after ≡ place) × (e.writer ≡ w)

abbrev pub more_outputs : Content → Output → Content
more_outputs c o = record { inputs = c.inputs; gates = c.gates; outputs = c.outputs ++ o ∷ [] }

-- there is room for one more output, which ends there
pub record RoomForOutput (w : Outputs) (o : Output) (size place : ℕ) : Type 0 where
  pub end : place ≡ w.end + length (output_bytes o)
  pub few : w.outputs < 256
  pub short : length o.name ≤ 16
  pub room : place ≤ size

-- one more output written, and the count
pub record WroteOutput (place : List ℕ) (w : Outputs) (o : Output) (v : Outputs) (after : List ℕ) : Type 0 where
  pub inputs : v.inputs ≡ w.inputs
  pub gates : v.gates ≡ w.gates
  pub outputs : v.outputs ≡ w.outputs + 1
  pub end : v.end ≡ w.end + length (output_bytes o)
  pub writes : after ≡ put (put place w.end (output_bytes o)) (gates_end w.gates) (number_bytes (w.outputs + 1))
  pub holds : (before : List ℕ) (c : Content) → HoldsOutputs before place w c → HoldsOutputs before after v (more_outputs c o)

abbrev pub AddingOutput : List ℕ → Outputs → Output → Result Outputs (Refused Outputs) → List ℕ → Type 0
AddingOutput place w o (Ok v) after = WroteOutput place w o v after
AddingOutput place w o (Err e) after = (after ≡ place) × (e.writer ≡ w)
