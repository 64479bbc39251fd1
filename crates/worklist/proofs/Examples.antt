-- The definitions of specs/ at small examples.
use Rattle.std.proofs.Common.{◌≡◌, ℕ, true, false, List, [], ◌∷◌, Some, None, refl, inl, inr, arith}
use Rattle.worklist.specs.Queues.{around, behind}
use Rattle.worklist.specs.Calls.{Call, put, take, added, gone, then_put, then_taken, Faithful}
use Rattle.worklist.specs.Laws.{FirstInFirstOut, asked}
use Rattle.worklist.specs.Items.{Below}

-- four slots, read round from slot 2, and the slot behind three items from there on
round : around {X = ℕ} 2 (5 ∷ 6 ∷ 7 ∷ 8 ∷ []) ≡ 7 ∷ 8 ∷ 5 ∷ 6 ∷ []
round = refl

wrapped : behind 2 3 4 ≡ 1
wrapped = refl

-- put 3, put 1, a refused put of 9, take; the latest call first
abbrev calls : ℕ → List (Call ℕ)
calls taken = take (Some taken) ∷ put 9 false ∷ put 1 true ∷ put 3 true ∷ []

put_so_far : added (calls 1) ≡ 1 ∷ 3 ∷ []
put_so_far = refl

taken_so_far : gone (calls 1) ≡ 1 ∷ []
taken_so_far = refl

asked_so_far : asked (calls 1) ≡ None ∷ Some 9 ∷ Some 1 ∷ Some 3 ∷ []
asked_so_far = refl

-- a ring takes 3, which leaves 1
oldest_first : FirstInFirstOut (calls 3) (1 ∷ [])
oldest_first = refl

-- three slots would have had room for 9
refused_early : Faithful 3 (calls 1) → ⊥
refused_early h = let e = h.1.0 in omega arith

in_turn : then_taken {X = ℕ} (8 ∷ []) (then_put (7 ∷ 8 ∷ []) []) ≡ take (Some 8) ∷ put 8 true ∷ put 7 true ∷ []
in_turn = refl

-- the first field that differs decides
by_second : Below 4 1 9 4 2 0
by_second = inr (refl, inl (omega arith))

not_by_third : Below 4 2 0 4 1 9 → ⊥
not_by_third (inl h) = omega arith
not_by_third (inr (e, inl h)) = omega arith
not_by_third (inr (e, inr h)) = let f = h.0 in omega arith
