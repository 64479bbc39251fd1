-- Sheets worked by hand, as one statement on the definitions.
use Rattle.std.specs.Prelude.{◌≡◌, ℕ, List, [], ◌∷◌, ◌++◌}
use Rattle.sheet.specs.Format.{Content, encode, decode, content, fault}

-- two inputs, gate XOR(2, 3), outputs q and r, both signal 4
abbrev pub first : Content
first = record {
  inputs = 2;
  gates = record { kind = 5; a = 2; b = 3; c = 0 } ∷ [];
  outputs = record { signal = 4; name = 113 ∷ [] } ∷ record { signal = 4; name = 114 ∷ [] } ∷ [];
}

abbrev pub first_bytes : List ℕ
first_bytes = 1 ∷ 0 ∷ 2 ∷ 0 ∷ 1 ∷ 5 ∷ 0 ∷ 2 ∷ 0 ∷ 3 ∷ 0 ∷ 0 ∷ 0 ∷ 2 ∷ 0 ∷ 4 ∷ 1 ∷ 113 ∷ 0 ∷ 4 ∷ 1 ∷ 114 ∷ []

pub record WorkedSheets : Type 0 where
  pub written : encode first ≡ first_bytes
  pub read : decode first_bytes ≡ content first
  pub nothing : decode [] ≡ fault 5 0 0
  pub other_edition : decode (2 ∷ []) ≡ fault 12 0 0
  pub half_a_count : decode (1 ∷ 0 ∷ []) ≡ fault 5 1 2
  pub many_inputs : decode (1 ∷ 0 ∷ 65 ∷ []) ≡ fault 6 1 1
  pub wrong_kind_cut_off : decode (1 ∷ 0 ∷ 2 ∷ 0 ∷ 1 ∷ 10 ∷ []) ≡ fault 3 2 5
  pub own_signal : decode (1 ∷ 0 ∷ 2 ∷ 0 ∷ 1 ∷ 5 ∷ 0 ∷ 4 ∷ []) ≡ fault 7 2 6
  pub unused_operand : decode (1 ∷ 0 ∷ 2 ∷ 0 ∷ 1 ∷ 7 ∷ 0 ∷ 3 ∷ 0 ∷ 3 ∷ 0 ∷ 0 ∷ []) ≡ fault 4 2 8
  pub same_name : decode (1 ∷ 0 ∷ 2 ∷ 0 ∷ 0 ∷ 0 ∷ 2 ∷ 0 ∷ 3 ∷ 1 ∷ 113 ∷ 0 ∷ 3 ∷ 1 ∷ 113 ∷ []) ≡ fault 8 3 14
  pub long_name : decode (1 ∷ 0 ∷ 2 ∷ 0 ∷ 0 ∷ 0 ∷ 1 ∷ 0 ∷ 3 ∷ 17 ∷ []) ≡ fault 8 3 9
  pub extra_byte : decode (first_bytes ++ 0 ∷ []) ≡ fault 9 0 22
