-- Outside a chain is outside both its parts, and outside a ladder is outside the part below at both limits.
use Rattle.std.proofs.Common.{◌≡◌, false, arith}
use Rattle.std.proofs.lemmas.Bool.{or_from}
use Rattle.std.proofs.lemmas.List.Elements.{All-cons, All-append}
use Rattle.engine.specs.Questions.{Question, at_limit}
use Rattle.engine.specs.Piles.{Pile, single, chain, ladder, rung, reach_of, Asking, asking, engines, Outside}

-- what each engine in a pile is outside of, put at its own limit
abbrev IsOutside : Question → Asking → Type 0
IsOutside q e = e.reach (at_limit e.limit q) ≡ false

-- a pile is one of its own engines
pub outside_own : (p : Pile) (q : Question) → Outside p q → reach_of p q ≡ false
outside_own (single reach) q o = o 0 (asking reach q.limit) (omega arith)
outside_own (chain first second) q o = o 0 (asking (reach_of (chain first second)) q.limit) (omega arith)
outside_own (ladder below) q o = o 0 (asking (reach_of (ladder below)) q.limit) (omega arith)

pub outside_chain : (first second : Pile) (q : Question) → Outside first q → Outside second q → Outside (chain first second) q
outside_chain first second q o u =
    All-cons (IsOutside q) _ _
    (or_from (reach_of first q) (reach_of second q) (outside_own first q o) (outside_own second q u))
    (All-append (IsOutside q) (engines first q.limit) (engines second q.limit) o u)

-- the limit of the question itself does not matter, since each engine is asked at its own
pub outside_ladder : (below : Pile) (q : Question) → Outside below (at_limit (rung q.limit) q) → Outside below q → Outside (ladder below) q
outside_ladder below q o u =
    All-cons (IsOutside q) _ _
    (outside_own below q u)
    (All-append (IsOutside q) (engines below (rung q.limit)) (engines below q.limit) o u)
