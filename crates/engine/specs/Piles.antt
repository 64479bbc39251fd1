-- Reach and piles: which questions an engine never leaves undecided, and what the engines in a pile are.
use Rattle.std.specs.Prelude.{◌≡◌, ℕ, ◌/◌, max, Bool, false, ◌||◌, List, [], ◌∷◌, ◌++◌, All}
use Rattle.engine.specs.Questions.{Question, at_limit}

-- a reach: a yes or no to each question
abbrev pub Reach : Type 0
Reach = Question → Bool

-- a pile of engines: one engine, a chain of two piles, or a ladder over one
pub data Pile : Type 0 where
  single : Reach → Pile
  chain : Pile → Pile → Pile
  ladder : Pile → Pile

-- the lower limit of a ladder: the limit divided by 16, rounded down, but at least 1
abbrev pub rung : ℕ → ℕ
rung limit = max 1 (limit / 16)

-- the reach of a pile as one engine: a chain's is either's, a ladder's is the one below at the limit
abbrev pub reach_of : Pile → Reach
reach_of (single reach) q = reach q
reach_of (chain first second) q = reach_of first q || reach_of second q
reach_of (ladder below) q = reach_of below q

-- an engine, by its reach, at a limit at which it may be asked
pub record Asking : Type 0 where
  pub reach : Reach
  pub limit : ℕ

abbrev pub asking : Reach → ℕ → Asking
asking reach limit = record { reach = reach; limit = limit }

-- the engines in a pile that is asked at a limit: itself and those in its parts, each at each limit at which it may be asked
abbrev pub engines : Pile → ℕ → List Asking
engines (single reach) limit = asking reach limit ∷ []
engines (chain first second) limit = asking (reach_of (chain first second)) limit ∷ (engines first limit ++ engines second limit)
engines (ladder below) limit = asking (reach_of (ladder below)) limit ∷ (engines below (rung limit) ++ engines below limit)

-- the question, at each one's own limit, is outside each reach of the list
abbrev pub OutsideEach : List Asking → Question → Type 0
OutsideEach es q = All (λ e. e.reach (at_limit e.limit q) ≡ false) es

-- the question is outside the reach of every engine in the pile, at each limit at which it may be asked
abbrev pub Outside : Pile → Question → Type 0
Outside pile q = OutsideEach (engines pile q.limit) q
