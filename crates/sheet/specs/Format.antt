-- The sheet format: what a sheet says, its bytes, and how bytes are read.
use Rattle.std.specs.Prelude.{ℕ, ◌+◌, ◌-◌, ◌/◌, ◌%◌, Bool, true, false, cond, not, ◌&&◌, ◌||◌, List, [], ◌∷◌, ◌++◌, map, length, ◌==◌, nat_lt}
use Rattle.gates.specs.Kinds.{between, is_kind, reads_b, reads_c}
use Rattle.std.specs.List.{flat_map}
use Rattle.std.specs.Str.{bytes_eq}
use Rattle.sheet.specs.Numbers.{number_of}
use Rattle.sheet.specs.Reading.{Read, got, bad, and_then, Wrong, byte, number, bytes, judged, records}
use Rattle.sheet.specs.declared.gate.Gate.{Gate}
use Rattle.sheet.specs.declared.fault.Flaw.{Flaw}
use Rattle.sheet.specs.declared.fault.Flaw.TheVariants.{Kind, Unused, Count, Signal, Name, Extra, Edition}

pub record Output : Type 0 where
  pub signal : ℕ
  pub name : List ℕ

pub record Content : Type 0 where
  pub inputs : ℕ
  pub gates : List Gate
  pub outputs : List Output

-- what each field has to be
abbrev pub operand_fits : Bool → ℕ → ℕ → Bool
operand_fits read own n = cond read (nat_lt n own) (n == 0)

abbrev pub operand_flaw : Bool → Flaw
operand_flaw read = cond read Signal Unused

abbrev pub visible : List ℕ → Bool
visible [] = true
visible (b ∷ bs) = between 33 126 b && visible bs

abbrev pub used : List ℕ → List (List ℕ) → Bool
used name [] = false
used name (n ∷ ns) = bytes_eq n name || used name ns

abbrev pub name_fits : List (List ℕ) → List ℕ → Bool
name_fits earlier name = visible name && not (used name earlier)

-- the bytes of a sheet
abbrev pub number_bytes : ℕ → List ℕ
number_bytes n = n / 256 ∷ n % 256 ∷ []

abbrev pub gate_bytes : Gate → List ℕ
gate_bytes g = g.kind ∷ number_bytes g.a ++ number_bytes g.b ++ number_bytes g.c

abbrev pub output_bytes : Output → List ℕ
output_bytes o = number_bytes o.signal ++ length o.name ∷ o.name

abbrev pub encode : Content → List ℕ
encode c =
    1 ∷ number_bytes c.inputs
    ++ (number_bytes (length c.gates) ++ (flat_map gate_bytes c.gates
    ++ (number_bytes (length c.outputs) ++ flat_map output_bytes c.outputs)))

-- a gate record, whose own signal is `own`
abbrev pub operand : Bool → ℕ → List ℕ → Read Wrong ℕ
operand read own = judged number (operand_fits read own) (operand_flaw read)

abbrev pub gate : ℕ → List ℕ → Read Wrong Gate
gate own xs =
    and_then (judged byte is_kind Kind xs) (λ k xs₁.
    and_then (operand true own xs₁) (λ a xs₂.
    and_then (operand (reads_b k) own xs₂) (λ b xs₃.
    and_then (operand (reads_c k) own xs₃) (λ c rest.
    got (record { kind = k; a = a; b = b; c = c }) rest))))

-- an output record, where so many signals are and after outputs with the names `earlier`
abbrev pub output : ℕ → List (List ℕ) → List ℕ → Read Wrong Output
output signals earlier xs =
    and_then (operand true signals xs) (λ s xs₁.
    and_then (judged byte (between 1 16) Name xs₁) (λ n xs₂.
    and_then (judged (bytes n) (name_fits earlier) Name xs₂) (λ name rest.
    got (record { signal = s; name = name }) rest)))

-- the gates after those that are read already, and the outputs
abbrev pub next_gate : ℕ → List Gate → List ℕ → Read Wrong Gate
next_gate inputs done = gate (inputs + 2 + length done)

abbrev pub gates : ℕ → ℕ → List ℕ → Read Wrong (List Gate)
gates inputs n = records (next_gate inputs) n []

abbrev pub names : List Output → List (List ℕ)
names os = map (λ o. o.name) os

abbrev pub next_output : ℕ → List Output → List ℕ → Read Wrong Output
next_output signals done = output signals (names done)

abbrev pub outputs : ℕ → ℕ → List ℕ → Read Wrong (List Output)
outputs signals n = records (next_output signals) n []

-- the sections
pub record Placed : Type 0 where
  pub section : ℕ
  pub wrong : Wrong

abbrev pub within : {X : Type 0} → ℕ → Read Wrong X → Read Placed X
within s (got x rest) = got x rest
within s (bad e) = bad (record { section = s; wrong = e })

abbrev pub edition : List ℕ → Read Wrong ℕ
edition = judged byte (between 1 1) Edition

abbrev pub input_section : List ℕ → Read Wrong ℕ
input_section = judged number (between 1 64) Count

abbrev pub gate_section : ℕ → List ℕ → Read Wrong (List Gate)
gate_section inputs xs = and_then (judged number (between 0 600) Count xs) (λ n rest. gates inputs n rest)

abbrev pub output_section : ℕ → List ℕ → Read Wrong (List Output)
output_section signals xs = and_then (judged number (between 1 256) Count xs) (λ n rest. outputs signals n rest)

abbrev pub end : List ℕ → Read Wrong ℕ
end [] = got 0 []
end (b ∷ rest) = bad (record { flaw = Extra; left = length (b ∷ rest) })

abbrev pub sheet : List ℕ → Read Placed Content
sheet bs =
    and_then (within 0 (edition bs)) (λ _ xs₁.
    and_then (within 1 (input_section xs₁)) (λ i xs₂.
    and_then (within 2 (gate_section i xs₂)) (λ gs xs₃.
    and_then (within 3 (output_section (i + 2 + length gs) xs₃)) (λ os xs₄.
    and_then (within 0 (end xs₄)) (λ _ rest.
    got (record { inputs = i; gates = gs; outputs = os }) rest)))))

-- what a sheet of so many bytes says, or its first fault, whose place is counted from the front
pub data Decoded : Type 0 where
  content : Content → Decoded
  fault : ℕ → ℕ → ℕ → Decoded

abbrev pub placed : ℕ → Read Placed Content → Decoded
placed n (got c rest) = content c
placed n (bad e) = fault (number_of e.wrong.flaw) e.section (n - e.wrong.left)

abbrev pub decode : List ℕ → Decoded
decode bs = placed (length bs) (sheet bs)
