-- Which answers two engines give in turn, the second asked only where the first is undecided.
use Rattle.std.specs.Prelude.{◌≡◌, ◌⊎◌}
use Rattle.engine.specs.Questions.{Question, at_limit}
use Rattle.engine.specs.Piles.{rung}
use Rattle.engine.specs.declared.answer.Answer.{Answer}
use Rattle.engine.specs.declared.answer.Answer.TheVariants.{Undecided}

-- which answers may be given to each question
abbrev pub Giving : Type 1
Giving = Question → Answer → Type 0

abbrev pub Decided : Answer → Type 0
Decided r = r ≡ Undecided → ⊥

-- the first decides, or it is undecided and the second answers
abbrev pub InTurn : (Answer → Type 0) → (Answer → Type 0) → Answer → Type 0
InTurn first second r = (first r × Decided r) ⊎ (first Undecided × second r)

-- a chain asks its first part and then its second
abbrev pub Chained : Giving → Giving → Giving
Chained first second q = InTurn (first q) (second q)

-- a ladder asks the part below at the lower limit and then at the limit
abbrev pub Climbed : Giving → Giving
Climbed below q = InTurn (below (at_limit (rung q.limit) q)) (below q)
