-- Nets as numbers: net 2v is the value of vertex v, and net 2v + 1 is its inverse.
use Rattle.std.specs.Prelude.{ℕ, zero, suc, ◌+◌, ◌*◌, ◌/◌, ◌%◌, Bool, not}

-- the net `x`, inverted where the net `y` is an inverse
abbrev pub carried : ℕ → ℕ → ℕ
carried x y = x / 2 * 2 + (x + y) % 2

-- the inverse of a net
abbrev pub inverse : ℕ → ℕ
inverse x = carried x 1

-- a value, inverted unless the number is 0
abbrev pub flip : {X : Type 0} → (X → X) → ℕ → X → X
flip inv zero x = x
flip inv (suc _) x = inv x

-- the value of the net `x`, where `ρ` has those of the vertices
abbrev pub net_in : {X : Type 0} → (X → X) → (ℕ → X) → ℕ → X
net_in inv ρ x = flip inv (x % 2) (ρ (x / 2))

abbrev pub net_value : (ℕ → Bool) → ℕ → Bool
net_value ρ x = net_in not ρ x
