-- The difference of two words: its trailing zeros give the first code of a list at which it is set.
use Rattle.std.proofs.Common.{◌≡◌, ℕ, zero, suc, ◌/◌, ◌^◌, ◌<◌, ◌≤◌, Bool, true, false, cond, eqb, nat_lt, List, length, get_or, Some, None, refl, sym, ap, subst, ◌∙◌, arith, ltb-true, ltb-false}
use lib.Bits.{bit_xor}
use lib.Count.{count_trailing_zeros}
use Rattle.std.specs.Int.{w64}
use Rattle.std.specs.Int.Count.{trailing_of_zero}
use Rattle.std.specs.Bool.{then_some}
use Rattle.std.specs.List.{position_or_len}
use Rattle.std.proofs.lemmas.Bool.{cond_below, cond_above}
use Rattle.std.proofs.lemmas.List.Sums.{position_or_len_is}
use Rattle.std.proofs.lemmas.Nat.{xor_lt}
use Rattle.std.proofs.lemmas.Nat.Bits.{bit_at-zero, bit_at-trailing_zeros}
use Rattle.aig.specs.declared.graph.Graph.{Graph}
use Rattle.aig.specs.Nets.{net_value}
use Rattle.aig.specs.Graphs.{inputs_of, vertices, used}
use Rattle.aig.specs.Values.{bit, value}
use Rattle.aig.proofs.Filling.{net_filled}
use Rattle.gates.specs.Kinds.{differ}
use Rattle.simulation.specs.Earliest.{earliest}
use Rattle.simulation.specs.Lanes.{lane, Simulated}
use Rattle.simulation.proofs.Bitwise.{bit-bit_xor}

-- no bit before the place that the trailing zeros of a word give is set, and the bit there is
trailing_before : (n j : ℕ) → n < 2 ^ 64 → j < count_trailing_zeros 64 n → bit n j ≡ false
trailing_before zero j small h = ap (λ (d : ℕ). eqb d 1) (bit_at-zero j)
trailing_before (suc n) j small h = ap (λ (d : ℕ). eqb d 1) ((bit_at-trailing_zeros w64 (suc n) (omega arith) small).2 j h)

trailing_set : (n : ℕ) → n < 2 ^ 64 → count_trailing_zeros 64 n < 64 → bit n (count_trailing_zeros 64 n) ≡ true
trailing_set zero small h = absurd (omega (arith, trailing_of_zero 64))
trailing_set (suc n) small h = ap (λ (d : ℕ). eqb d 1) (bit_at-trailing_zeros w64 (suc n) (omega arith) small).1

-- the word of a net holds its values
holds : (g : Graph) (codes words : List ℕ) → length codes ≤ 64 → Simulated g codes words → (net word : ℕ) → net / 2 < used g
    → ((k : ℕ) → k < 64 → bit word k ≡ net_value (lane words k) net)
    → (k : ℕ) → k < length codes → bit word k ≡ value (inputs_of g) (vertices g) net (get_or codes k 0)
holds g codes words few sim net word inside f k h =
    f k (omega arith)
    ∙ net_filled (inputs_of g) (vertices g) (get_or codes k 0) (lane words k) net (sim k (net / 2) h inside)

-- the words `x` and `y` have the values of two functions under each code of a list
module _ (codes : List ℕ) (few : length codes ≤ 64) (f g : ℕ → Bool) (x y : ℕ) (sx : x < 2 ^ 64) (sy : y < 2 ^ 64)
    (fx : (k : ℕ) → k < length codes → bit x k ≡ f (get_or codes k 0))
    (gy : (k : ℕ) → k < length codes → bit y k ≡ g (get_or codes k 0)) where
  abbrev apart : ℕ → Bool
  apart c = differ (f c) (g c)

  abbrev first : ℕ
  first = count_trailing_zeros 64 (bit_xor x y)

  bit_differs : (k : ℕ) → k < length codes → apart (get_or codes k 0) ≡ bit (bit_xor x y) k
  bit_differs k h = sym (
      bit-bit_xor x y k
      ∙ ap (λ (b : Bool). differ b (bit y k)) (fx k h)
      ∙ ap (differ (f (get_or codes k 0))) (gy k h))

  same_before : (k : ℕ) → k < length codes → k < first → apart (get_or codes k 0) ≡ false
  same_before k h l = bit_differs k h ∙ trailing_before (bit_xor x y) k (xor_lt 64 x y sx sy) l

  by_test : (b : Bool) → nat_lt first (length codes) ≡ b → then_some b first ≡ earliest codes f g
  by_test true e =
      let h = ltb-true first (length codes) e in
      let is : position_or_len apart codes ≡ first =
      position_or_len_is apart codes first 0 (omega arith) (λ k l. same_before k (omega arith) l)
      (λ l. bit_differs first l ∙ trailing_set (bit_xor x y) (xor_lt 64 x y sx sy) (omega arith)) in
      subst (λ (n : ℕ). Some first ≡ cond (nat_lt n (length codes)) (Some n) None) (sym is) (cond_below first (length codes) (Some first) None h)
  by_test false e =
      let h = ltb-false first (length codes) e in
      let is : position_or_len apart codes ≡ length codes =
      position_or_len_is apart codes (length codes) 0 (omega arith) (λ k l. same_before k l (omega arith)) (λ l. absurd (omega arith)) in
      cond_above (position_or_len apart codes) (length codes) (Some (position_or_len apart codes)) None None (omega arith) refl

  found_is : then_some (nat_lt first (length codes)) first ≡ earliest codes f g
  found_is = by_test (nat_lt first (length codes)) refl

-- the words `x` and `y` of the nets `a` and `b` of a simulated graph: their difference gives the earliest code
pub separates : (g : Graph) (codes words : List ℕ) (a b x y : ℕ) → length codes ≤ 64 → Simulated g codes words → a / 2 < used g → b / 2 < used g
    → x < 2 ^ 64 → y < 2 ^ 64
    → ((k : ℕ) → k < 64 → bit x k ≡ net_value (lane words k) a) → ((k : ℕ) → k < 64 → bit y k ≡ net_value (lane words k) b)
    → then_some (nat_lt (count_trailing_zeros 64 (bit_xor x y)) (length codes)) (count_trailing_zeros 64 (bit_xor x y))
    ≡ earliest codes (value (inputs_of g) (vertices g) a) (value (inputs_of g) (vertices g) b)
separates g codes words a b x y few sim inside_a inside_b sx sy fx gy =
    found_is codes few (value (inputs_of g) (vertices g) a) (value (inputs_of g) (vertices g) b) x y sx sy
    (holds g codes words few sim a x inside_a fx)
    (holds g codes words few sim b y inside_b gy)
