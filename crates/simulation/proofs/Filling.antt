-- The word of an inverse net: what holds in each lane.
use Rattle.std.proofs.Common.{◌≡◌, ℕ, ◌/◌, ◌%◌, ◌^◌, ◌-◌, ◌<◌, not, List, get_or, sym, ap, ◌∙◌, arith}
use Rattle.aig.specs.Nets.{flip, net_value}
use Rattle.aig.specs.Values.{bit}
use Rattle.simulation.specs.Lanes.{lane}
use Rattle.simulation.proofs.Bitwise.{bit-bit_not}

-- the word of an inverse net
pub inverse_word : (words : List ℕ) (x v k : ℕ) → v ≡ x / 2 → (x % 2 ≡ 0 → ⊥) → get_or words v 0 < 2 ^ 64 → k < 64
    → bit (18446744073709551615 - get_or words v 0) k ≡ net_value (lane words k) x
inverse_word words x v k e odd small h =
    let one : x % 2 ≡ 1 = omega arith in
    bit-bit_not (get_or words v 0) k small h
    ∙ ap (λ (y : ℕ). not (bit (get_or words y 0) k)) e
    ∙ sym (ap (λ (d : ℕ). flip not d (bit (get_or words (x / 2) 0) k)) one)
