-- The ring over a put and a take.
use Rattle.std.specs.Prelude.{◌≡◌, ℕ, ◌+◌, ◌-◌, ◌%◌, ◌<◌, ◌≤◌, List, [], ◌∷◌, ◌++◌, length, take, drop, slice_index_or, slice_set}
use Rattle.std.proofs.Common.{sym, ap, ◌∙◌, mod-eq_of_lt, arith, add-one, length-append, length-drop}
use Rattle.std.proofs.Math.Nat.{add-mod_right}
use Rattle.std.proofs.Math.Seq.{take-set-lt}
use Rattle.std.proofs.lemmas.List.{take-set-le, drop-set-lt, drop-set-add, set-append_left, set-append_right, take_more_set, take_more, drop_more, take-append-le, append_assoc, append-nil, drop_all, length-take-le, take_all}
use Rattle.worklist.specs.Queues.{around, behind, Circle}

-- the slot that a put writes
pub place_onward : (first count room : ℕ) → first + count < room → first + count ≡ behind first count room
place_onward first count room lt = sym (mod-eq_of_lt lt)

pub place_before : (first count room : ℕ) → first < room → count < room → room - first ≤ count → count - (room - first) ≡ behind first count room
place_before first count room lt few far =
    let p = count - (room - first) in
    let sum : p + room ≡ first + count = omega arith in
    let in' : p < room = omega arith in
    sym (mod-eq_of_lt in') ∙ sym (add-mod_right p room) ∙ ap (λ (n : ℕ). n % room) sum

module _ {X : Type 0} where
  pub length_around : (first : ℕ) (xs : List X) → first ≤ length xs → length (around first xs) ≡ length xs
  length_around first xs le = length-append (drop first xs) (take first xs) ∙ omega (arith, length-drop first xs, length-take-le first xs le)

  -- a write from `first` on, and one before it
  onward : (xs : List X) (first count : ℕ) (x : X) → first + count < length xs → around first (slice_set xs (first + count) x) ≡ slice_set (around first xs) count x
  onward xs first count x lt =
      ap (λ (l : List X). l ++ take first (slice_set xs (first + count) x)) (drop-set-add first xs count x)
      ∙ ap (λ (l : List X). slice_set (drop first xs) count x ++ l) (take-set-le first xs (first + count) x (omega arith))
      ∙ sym (set-append_left (drop first xs) (take first xs) count x (omega (arith, length-drop first xs)))

  before : (xs : List X) (first count : ℕ) (x : X) → first ≤ length xs → length xs - first ≤ count → count - (length xs - first) < first
      → around first (slice_set xs (count - (length xs - first)) x) ≡ slice_set (around first xs) count x
  before xs first count x le far lt =
      let p = count - (length xs - first) in
      ap (λ (l : List X). l ++ take first (slice_set xs p x)) (drop-set-lt first xs p x lt)
      ∙ ap (λ (l : List X). drop first xs ++ l) (take-set-lt first xs p x lt)
      ∙ sym (set-append_right (drop first xs) (take first xs) (length xs - first) count x (length-drop first xs) far)

  joined : (xs ys : List X) (first count : ℕ) (x : X) → first ≤ length xs → count < length xs → around first ys ≡ slice_set (around first xs) count x
      → take (count + 1) (around first ys) ≡ take count (around first xs) ++ x ∷ []
  joined xs ys first count x le lt e = ap (take (count + 1)) e ∙ take_more_set (around first xs) count x (omega (arith, length_around first xs le))

  pub joins_onward : (xs : List X) (first count : ℕ) (x : X) → first + count < length xs
      → take (count + 1) (around first (slice_set xs (first + count) x)) ≡ take count (around first xs) ++ x ∷ []
  joins_onward xs first count x lt = joined xs (slice_set xs (first + count) x) first count x (omega arith) (omega arith) (onward xs first count x lt)

  pub joins_before : (xs : List X) (first count : ℕ) (x : X) → first < length xs → count < length xs → length xs - first ≤ count
      → take (count + 1) (around first (slice_set xs (count - (length xs - first)) x)) ≡ take count (around first xs) ++ x ∷ []
  joins_before xs first count x lt room far =
      joined xs (slice_set xs (count - (length xs - first)) x) first count x (omega arith) room (before xs first count x (omega arith) far (omega arith))

  -- the first of the slots, read round, and the others
  rest : (xs : List X) (first : ℕ) (x : X) → first < length xs → x ≡ slice_index_or xs first x → around first xs ≡ x ∷ (drop (first + 1) xs ++ take first xs)
  rest xs first x lt e = ap (λ (l : List X). l ++ take first xs) (drop_more xs first x lt ∙ ap (λ (y : X). y ∷ drop (first + 1) xs) (sym e))

  next : (xs : List X) (first : ℕ) (x : X) → first < length xs → x ≡ slice_index_or xs first x → around (first + 1) xs ≡ (drop (first + 1) xs ++ take first xs) ++ x ∷ []
  next xs first x lt e =
      ap (λ (l : List X). drop (first + 1) xs ++ l) (take_more xs first x lt ∙ ap (λ (y : X). take first xs ++ y ∷ []) (sym e))
      ∙ sym (append_assoc (drop (first + 1) xs) (take first xs) (x ∷ []))

  pub leaves_on : (xs : List X) (first count : ℕ) (x : X) → first < length xs → count < length xs → x ≡ slice_index_or xs first x
      → take (count + 1) (around first xs) ≡ x ∷ take count (around (first + 1) xs)
  leaves_on xs first count x lt room e =
      let ws = drop (first + 1) xs ++ take first xs in
      let long : count ≤ length ws = omega (arith, length-append (drop (first + 1) xs) (take first xs), length-drop (first + 1) xs, length-take-le first xs (omega arith)) in
      ap (take (count + 1)) (rest xs first x lt e) ∙ ap (λ (n : ℕ). take n (x ∷ ws)) (add-one count)
      ∙ ap (λ (l : List X). x ∷ l) (sym (ap (take count) (next xs first x lt e) ∙ take-append-le count ws (x ∷ []) long))

  -- the slot after the last is the first
  pub around_all : (xs : List X) (first : ℕ) → first ≡ length xs → around first xs ≡ around 0 xs
  around_all xs first e =
      ap (λ (l : List X). l ++ take first xs) (drop_all first xs (omega arith)) ∙ take_all first xs (omega arith) ∙ sym (append-nil xs)

  pub length_bag : (first count : ℕ) (xs : List X) → Circle first count xs → length (take count (around first xs)) ≡ count
  length_bag first count [] c = length-take-le count (around first []) (let h : count ≤ 0 = c.fits in omega arith)
  length_bag first count (x ∷ xs) c =
      let w : first < length (x ∷ xs) = c.within (omega arith) in
      let h : count ≤ length (x ∷ xs) = c.fits in
      length-take-le count (around first (x ∷ xs)) (omega (arith, length_around first (x ∷ xs) (omega arith)))

  pub still : (first count : ℕ) (xs ys : List X) → Circle first count xs → count < length xs → length ys ≡ length xs → Circle first (count + 1) ys
  still first count xs ys c lt e = let w : first < length xs = c.within (omega arith) in record { fits = omega arith; within = λ _. omega arith }
