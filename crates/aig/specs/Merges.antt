-- Merging two nets that have one value under every code.
use Rattle.std.specs.Prelude.{◌≡◌, ℕ, ◌/◌, ◌<◌, min, max, List, length, ◌≢◌, slice_index_or}
use Rattle.aig.specs.declared.vertex.Vertex.{Vertex}
use Rattle.aig.specs.Nets.{carried}
use Rattle.aig.specs.Table.{none, link_of, survivor_of, Stands}
use Rattle.aig.specs.Values.{value, vertex_value}
use Rattle.aig.specs.Algebras.{Forced}
use Rattle.aig.specs.Cascade.{Composed}

-- two nets in use that agree under every code
pub record Joinable (n : ℕ) (t : List Vertex) (x y : ℕ) : Type 0 where
  pub first : x / 2 < length t
  pub second : y / 2 < length t
  pub agree : (code : ℕ) → value n t x code ≡ value n t y code

-- the vertex `gone` stands, and the net `keep` of an earlier standing vertex has its value under every code
pub record Mergeable (n : ℕ) (t : List Vertex) (keep gone : ℕ) : Type 0 where
  pub gate : n < gone
  pub inside : gone < length t
  pub stands : Stands t gone
  pub before : keep / 2 < gone
  pub onto : Stands t (keep / 2)
  pub equal : (code : ℕ) → value n t keep code ≡ vertex_value n t code gone

-- after the merge of `gone` into `keep`: no vertex is added, none stands again, those before `gone` are as they were, no
-- value changes, an inversion is kept where a survivor is itself merged, and only what is forced is merged
pub record AfterMerge (n : ℕ) (t : List Vertex) (keep gone : ℕ) (t' : List Vertex) : Type 0 where
  pub long : length t' ≡ length t
  pub linked : link_of t' gone ≡ keep
  pub falls : (v : ℕ) → v < length t → Stands t' v → Stands t v
  pub before : (v : ℕ) → v < gone → slice_index_or t' v none ≡ slice_index_or t v none
  pub composed : Composed t t'
  pub same : (code v : ℕ) → v < length t → vertex_value n t' code v ≡ vertex_value n t code v
  pub forced : Forced n t keep gone t'

-- of two nets that stand: the later vertex, and the net of the earlier one that the later vertex is to have
abbrev pub later : ℕ → ℕ → ℕ
later x y = max x y / 2

abbrev pub kept : ℕ → ℕ → ℕ
kept x y = carried (min x y) (max x y)

-- after two nets were joined, they have one survivor: the later joined the earlier, or they had one already
pub record Joined (n : ℕ) (t : List Vertex) (x y : ℕ) (t' : List Vertex) : Type 0 where
  pub one : survivor_of t' x ≡ survivor_of t' y
  pub already : survivor_of t x ≡ survivor_of t y → t' ≡ t
  pub merged : (survivor_of t x ≢ survivor_of t y) → AfterMerge n t (kept (survivor_of t x) (survivor_of t y)) (later (survivor_of t x) (survivor_of t y)) t'
