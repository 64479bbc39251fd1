-- What holds of a graph between calls: its table `t` over `n` inputs.
use Rattle.std.specs.Prelude.{◌≡◌, ℕ, ◌/◌, ◌<◌, ◌≤◌, List, length}
use Rattle.aig.specs.declared.vertex.Vertex.{Vertex}
use Rattle.aig.specs.Nets.{net_value}
use Rattle.aig.specs.Table.{left_of, right_of, link_of, Stands}
use Rattle.aig.specs.Values.{vertex_value}

-- a pair of nets, the smaller first, that no rule folds: not a constant, and not of one vertex
abbrev pub Proper : ℕ → ℕ → Type 0
Proper a b = (1 < a) × (a / 2 < b / 2)

-- `v` is an AND-vertex; one that stands; a vertex that is merged; two standing AND-vertices with one pair
pub record Gate (n : ℕ) (t : List Vertex) (v : ℕ) : Type 0 where
  pub after : n < v
  pub inside : v < length t

pub record StandingGate (n : ℕ) (t : List Vertex) (v : ℕ) : Type 0 where
  pub after : n < v
  pub inside : v < length t
  pub stands : Stands t v

pub record MergedAway (t : List Vertex) (v : ℕ) : Type 0 where
  pub inside : v < length t
  pub lost : Stands t v → ⊥

pub record Twins (n : ℕ) (t : List Vertex) (x y : ℕ) : Type 0 where
  pub one : StandingGate n t x
  pub other : StandingGate n t y
  pub lefts : left_of t x ≡ left_of t y
  pub rights : right_of t x ≡ right_of t y

-- where any vertex is in use, so are the constant and the inputs
abbrev pub InputsThere : ℕ → List Vertex → Type 0
InputsThere n t = 0 < length t → n < length t

-- a merged vertex's survivor is earlier and stands
abbrev pub LinksStand : List Vertex → Type 0
LinksStand t = (v : ℕ) → MergedAway t v → (link_of t v / 2 < v) × Stands t (link_of t v / 2)

-- operands are earlier than their vertex
abbrev pub ReadsEarlier : ℕ → List Vertex → Type 0
ReadsEarlier n t = (v : ℕ) → Gate n t v → (left_of t v / 2 < v) × (right_of t v / 2 < v)

-- operands of a standing vertex stand
abbrev pub ReadsStanding : ℕ → List Vertex → Type 0
ReadsStanding n t = (v : ℕ) → StandingGate n t v → Stands t (left_of t v / 2) × Stands t (right_of t v / 2)

-- no standing pair folds
abbrev pub NoneFolds : ℕ → List Vertex → Type 0
NoneFolds n t = (v : ℕ) → StandingGate n t v → Proper (left_of t v) (right_of t v)

-- no two standing vertices have one pair
abbrev pub NoTwins : ℕ → List Vertex → Type 0
NoTwins n t = (x y : ℕ) → Twins n t x y → x ≡ y

-- each vertex has the value of its survivor, straight or inverted, under every code
abbrev pub LinksEqual : ℕ → List Vertex → Type 0
LinksEqual n t = (code v : ℕ) → v < length t → vertex_value n t code v ≡ net_value (vertex_value n t code) (link_of t v)

pub record Whole (n : ℕ) (t : List Vertex) : Type 0 where
  pub small : length t ≤ 4096
  pub few : InputsThere n t
  pub linked : LinksStand t
  pub earlier : ReadsEarlier n t
  pub standing : ReadsStanding n t
  pub proper : NoneFolds n t
  pub unique : NoTwins n t
  pub equal : LinksEqual n t
