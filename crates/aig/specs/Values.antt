-- The value of a net under an input code: the one definition that all else is tied to.
use Rattle.std.specs.Prelude.{ℕ, zero, suc, ◌-◌, ◌/◌, ◌%◌, ◌^◌, Bool, false, cond, ◌&&◌, List, ◌==◌, nat_le}
use Rattle.aig.specs.declared.vertex.Vertex.{Vertex}
use Rattle.aig.specs.Nets.{net_value}
use Rattle.aig.specs.Table.{left_of, right_of}

-- the bit at the place `k` of a code, from the lowest
abbrev pub bit : ℕ → ℕ → Bool
bit code k = code / 2 ^ k % 2 == 1

-- the value of the vertex `v` of a table with `n` inputs, where `ρ` has those of earlier vertices: false, an input's bit,
-- or the AND of two nets
abbrev pub value_by : ℕ → List Vertex → ℕ → (ℕ → Bool) → ℕ → Bool
value_by n t code ρ v = cond (v == 0) false (cond (nat_le v n) (bit code (v - 1)) (net_value ρ (left_of t v) && net_value ρ (right_of t v)))

-- the same, where operands are followed at most so many steps down
abbrev pub value_in : ℕ → List Vertex → ℕ → ℕ → ℕ → Bool
value_in n t code zero v = false
value_in n t code (suc steps) v = value_by n t code (value_in n t code steps) v

-- the value of a vertex, whose operands are earlier
unfoldable pub vertex_value : ℕ → List Vertex → ℕ → ℕ → Bool
vertex_value n t code v = value_in n t code (suc v) v

-- the value of a net
unfoldable pub value : ℕ → List Vertex → ℕ → ℕ → Bool
value n t x code = net_value (vertex_value n t code) x
