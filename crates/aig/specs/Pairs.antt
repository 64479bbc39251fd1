-- Pairs of nets with the smaller first, line by line: what a pair folds to, and which vertex has it.
use Rattle.std.specs.Prelude.{◌≡◌, ℕ, ◌*◌, min, max, List, ◌≢◌}
use Rattle.aig.specs.declared.vertex.Vertex.{Vertex}
use Rattle.aig.specs.Nets.{inverse}
use Rattle.aig.specs.Table.{left_of, right_of}
use Rattle.aig.specs.Invariant.{Proper, StandingGate}

-- `a` and `b` are `x` and `y`, the smaller first
pub record Ordered (x y a b : ℕ) : Type 0 where
  pub low : a ≡ min x y
  pub high : b ≡ max x y

-- what a pair folds to
pub data Folds (a b : ℕ) : ℕ → Type 0 where
  zero_first : a ≡ 0 → Folds a b 0
  one_first : a ≡ 1 → Folds a b b
  same : a ≡ b → Folds a b a
  opposed : b ≡ inverse a → Folds a b 0

-- no standing vertex has the pair
abbrev pub Absent : ℕ → List Vertex → ℕ → ℕ → Type 0
Absent n t a b = (v : ℕ) → StandingGate n t v → left_of t v ≡ a → right_of t v ≢ b

-- the net is that of a standing vertex with the pair
pub data Present (n : ℕ) (t : List Vertex) (a b : ℕ) : ℕ → Type 0 where
  at : (v : ℕ) → StandingGate n t v → left_of t v ≡ a → right_of t v ≡ b → Present n t a b (2 * v)

-- the net that the pair has in the table; there is none
pub data Known (n : ℕ) (t : List Vertex) (a b : ℕ) : ℕ → Type 0 where
  folds : (net : ℕ) → Folds a b net → Known n t a b net
  found : (net : ℕ) → Proper a b → Present n t a b net → Known n t a b net

pub record Unknown (n : ℕ) (t : List Vertex) (a b : ℕ) : Type 0 where
  pub proper : Proper a b
  pub absent : Absent n t a b
