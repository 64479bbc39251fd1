-- The bits of words: of an AND, of an exclusive or, of an inverse, and of a word that a list of bits is packed into.
use Rattle.std.proofs.Common.{◌≡◌, ℕ, zero, suc, ◌+◌, ◌-◌, ◌*◌, ◌/◌, ◌%◌, ◌^◌, ◌<◌, ◌≤◌, min, Bool, true, false, cond, not, ◌&&◌, eqb, List, [], ◌∷◌, length, get_or, map, reverse, fold, refl, ap, ◌∙◌, arith}
use lib.Bits.{bit_and, bit_or, bit_xor}
use Rattle.std.specs.Int.{bit_at, bit_not, w64}
use Rattle.std.specs.Simd.Lanes.{mask_l}
use Rattle.std.proofs.lemmas.Nat.{or_shifted, shl_whole}
use Rattle.std.proofs.lemmas.Nat.Bits.{bit_at_and, bit_at_xor, bit_at_not, bit_at-lt, shr_and_one}
use Rattle.std.proofs.lemmas.Simd.{mask_l-lt, bit_mask_l}
use Rattle.std.proofs.lemmas.List.{get_or-map, length-map, reverse-append}
use Rattle.std.proofs.lemmas.List.Sums.{fold-append}
use Rattle.aig.specs.Values.{bit}
use Rattle.gates.specs.Kinds.{differ}

-- what holds of both digits holds of each number below 2
digits : (P : ℕ → Type 0) → P 0 → P 1 → (d : ℕ) → d < 2 → P d
digits P zeroth first zero h = zeroth
digits P zeroth first (suc zero) h = first
digits P zeroth first (suc (suc d)) h = absurd (omega arith)

pub bit-bit_and : (a b k : ℕ) → bit (bit_and a b) k ≡ (bit a k && bit b k)
bit-bit_and a b k =
    ap (λ (d : ℕ). eqb d 1) (bit_at_and a b k)
    ∙ digits (λ p. eqb (min p (bit_at b k)) 1 ≡ (eqb p 1 && bit b k))
    (digits (λ q. eqb (min 0 q) 1 ≡ (eqb 0 1 && eqb q 1)) refl refl (bit_at b k) (bit_at-lt b k))
    (digits (λ q. eqb (min 1 q) 1 ≡ (eqb 1 1 && eqb q 1)) refl refl (bit_at b k) (bit_at-lt b k))
    (bit_at a k) (bit_at-lt a k)

pub bit-bit_xor : (a b k : ℕ) → bit (bit_xor a b) k ≡ differ (bit a k) (bit b k)
bit-bit_xor a b k =
    ap (λ (d : ℕ). eqb d 1) (bit_at_xor a b k)
    ∙ digits (λ p. eqb ((p + bit_at b k) % 2) 1 ≡ differ (eqb p 1) (bit b k))
    (digits (λ q. eqb ((0 + q) % 2) 1 ≡ differ (eqb 0 1) (eqb q 1)) refl refl (bit_at b k) (bit_at-lt b k))
    (digits (λ q. eqb ((1 + q) % 2) 1 ≡ differ (eqb 1 1) (eqb q 1)) refl refl (bit_at b k) (bit_at-lt b k))
    (bit_at a k) (bit_at-lt a k)

pub bit-bit_not : (w k : ℕ) → w < 2 ^ 64 → k < 64 → bit (bit_not w64 w) k ≡ not (bit w k)
bit-bit_not w k h l =
    ap (λ (d : ℕ). eqb d 1) (bit_at_not w64 w k h l)
    ∙ digits (λ d. eqb (1 - d) 1 ≡ not (eqb d 1)) refl refl (bit_at w k) (bit_at-lt w k)

-- the word moves up by a place and takes the bit `i` of a code at the lowest
abbrev pub taken : ℕ → ℕ → ℕ → ℕ
taken i word code = bit_or (word * 2 ^ 1 % 2 ^ 64) (bit_and (code / 2 ^ i) 1)

taken_is : (i code : ℕ) (bs : List Bool) → length bs < 64 → taken i (mask_l bs) code ≡ mask_l (bit code i ∷ bs)
taken_is i code bs h =
    let low : bit_and (code / 2 ^ i) 1 ≡ cond (bit code i) 1 0 =
    shr_and_one code i ∙ digits (λ d. d ≡ cond (eqb d 1) 1 0) refl refl (bit_at code i) (bit_at-lt code i) in
    let small : bit_and (code / 2 ^ i) 1 < 2 ^ 1 = omega (arith, shr_and_one code i, bit_at-lt code i) in
    ap (λ (x : ℕ). bit_or x (bit_and (code / 2 ^ i) 1)) (shl_whole (mask_l bs) (length bs) 1 64 (mask_l-lt bs) (omega arith))
    ∙ or_shifted (mask_l bs) 1 (bit_and (code / 2 ^ i) 1) small
    ∙ omega (arith, low)

-- a list of codes, taken from its end
taken_all : (i : ℕ) (codes : List ℕ) → length codes ≤ 64 → fold (taken i) 0 (reverse codes) ≡ mask_l (map (λ c. bit c i) codes)
taken_all i [] h = refl
taken_all i (c ∷ cs) h =
    ap (fold (taken i) 0) (reverse-append (c ∷ []) cs)
    ∙ fold-append (taken i) 0 (reverse cs) (c ∷ [])
    ∙ ap (λ (w : ℕ). taken i w c) (taken_all i cs (omega arith))
    ∙ taken_is i c (map (λ c. bit c i) cs) (omega (arith, length-map cs (λ c. bit c i)))

pub taken_bit : (i : ℕ) (codes : List ℕ) → length codes ≤ 64 → (k : ℕ) → k < length codes → bit (fold (taken i) 0 (reverse codes)) k ≡ bit (get_or codes k 0) i
taken_bit i codes few k h =
    ap (λ (w : ℕ). bit w k) (taken_all i codes few)
    ∙ ap (λ (d : ℕ). eqb d 1) (bit_mask_l (map (λ c. bit c i) codes) k)
    ∙ whole (get_or (map (λ c. bit c i) codes) k false)
    ∙ get_or-map (λ c. bit c i) codes k 0 false h
  where
    whole : (b : Bool) → eqb (cond b 1 0) 1 ≡ b
    whole true = refl
    whole false = refl
