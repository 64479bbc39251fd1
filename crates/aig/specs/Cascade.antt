-- What the steps of a merge keep and restore: a merge relinks, then rehashes each reader of the merged vertex, and a
-- rehash that meets a fold or a match merges again. Between these steps some standing vertices read what no longer stands.
use Rattle.std.specs.Prelude.{◌≡◌, ℕ, ◌*◌, ◌/◌, ◌<◌, ◌≤◌, ◌⊎◌, List, length, ◌≢◌, slice_index_or}
use Rattle.aig.specs.declared.vertex.Vertex.{Vertex}
use Rattle.aig.specs.Nets.{carried}
use Rattle.aig.specs.Table.{none, left_of, right_of, link_of, survivor_of, Stands}
use Rattle.aig.specs.Algebras.{Follows, Forced}
use Rattle.aig.specs.Invariant.{Proper}

-- where each link, and each operand, points
pub record Shape (n : ℕ) (t : List Vertex) : Type 0 where
  pub small : length t ≤ 4096
  pub linked : (v : ℕ) → v < length t → (link_of t v ≡ 2 * v) ⊎ ((link_of t v / 2 < v) × (link_of t (link_of t v / 2) ≡ 2 * (link_of t v / 2)))
  pub earlier : (v : ℕ) → n < v → v < length t → (left_of t v / 2 < v) × (right_of t v / 2 < v)

-- `w` stands, and reads the vertex `o`, which does not
pub record Stale (n : ℕ) (t : List Vertex) (w o : ℕ) : Type 0 where
  pub gate : n < w
  pub inside : w < length t
  pub stands : Stands t w
  pub lost : Stands t o → ⊥
  pub reads : (left_of t w / 2 ≡ o) ⊎ (right_of t w / 2 ≡ o)

-- `w` stands, and reads only what stands
pub record Clean (n : ℕ) (t : List Vertex) (w : ℕ) : Type 0 where
  pub gate : n < w
  pub inside : w < length t
  pub stands : Stands t w
  pub first : Stands t (left_of t w / 2)
  pub second : Stands t (right_of t w / 2)

-- no two clean vertices but `g` have one pair
abbrev pub UniqueBut : ℕ → ℕ → List Vertex → Type 0
UniqueBut n g t = (x y : ℕ) → (x ≢ g) → (y ≢ g) → Clean n t x → Clean n t y → left_of t x ≡ left_of t y → right_of t x ≡ right_of t y → x ≡ y

abbrev pub Unique : ℕ → List Vertex → Type 0
Unique n t = (x y : ℕ) → Clean n t x → Clean n t y → left_of t x ≡ left_of t y → right_of t x ≡ right_of t y → x ≡ y

abbrev pub AllProper : ℕ → List Vertex → Type 0
AllProper n t = (x : ℕ) → Clean n t x → Proper (left_of t x) (right_of t x)

-- the survivor after is the survivor of the survivor before, inverted where either is
abbrev pub Composed : List Vertex → List Vertex → Type 0
Composed t t' = (v : ℕ) → v < length t → link_of t' v ≡ survivor_of t' (link_of t v)

-- each link at `g` goes to `keep` in its place
pub record Relinked (t : List Vertex) (keep g : ℕ) (t' : List Vertex) : Type 0 where
  pub long : length t' ≡ length t
  pub lefts : (v : ℕ) → v < length t → left_of t' v ≡ left_of t v
  pub rights : (v : ℕ) → v < length t → right_of t' v ≡ right_of t v
  pub moved : (v : ℕ) → v < length t → link_of t v / 2 ≡ g → link_of t' v ≡ carried keep (link_of t v)
  pub kept : (v : ℕ) → v < length t → (link_of t v / 2 ≢ g) → link_of t' v ≡ link_of t v

-- what holds between the steps of a cascade
pub record Midway (n : ℕ) (t : List Vertex) : Type 0 where
  pub shape : Shape n t
  pub unique : Unique n t
  pub proper : AllProper n t

-- when `g` may be merged into `keep`
pub record Ready (n : ℕ) (t : List Vertex) (keep g : ℕ) : Type 0 where
  pub shape : Shape n t
  pub gate : n < g
  pub inside : g < length t
  pub stands : Stands t g
  pub before : keep / 2 < g
  pub onto : Stands t (keep / 2)
  pub unique : UniqueBut n g t
  pub proper : AllProper n t

-- what every step of a cascade keeps; it leaves the vertices before `g` as they were
pub record Step (n : ℕ) (t : List Vertex) (g : ℕ) (t' : List Vertex) : Type 0 where
  pub long : length t' ≡ length t
  pub midway : Midway n t'
  pub falls : (v : ℕ) → v < length t → Stands t' v → Stands t v
  pub before : (v : ℕ) → v < g → slice_index_or t' v none ≡ slice_index_or t v none
  pub composed : Composed t t'

-- a vertex that a cascade may rehash: one that stands and reads one that does not
pub record Dirty (n : ℕ) (t : List Vertex) (w : ℕ) : Type 0 where
  pub midway : Midway n t
  pub read : ℕ
  pub stale : Stale n t w read

-- what a merge of `g` into `keep`, and a rehash of `w`, give
pub record Merged (n : ℕ) (t : List Vertex) (keep g : ℕ) (t' : List Vertex) : Type 0 where
  pub step : Step n t g t'
  pub linked : link_of t' g ≡ keep
  pub stale : (x o : ℕ) → Stale n t' x o → Stale n t x o
  pub forced : Forced n t keep g t'

pub record Rehashed (n : ℕ) (t : List Vertex) (w : ℕ) (t' : List Vertex) : Type 0 where
  pub step : Step n t w t'
  pub stale : (x o : ℕ) → Stale n t' x o → Stale n t x o × (x ≢ w)
  pub follows : Follows n t t'
