-- What a graph holds, for contracts that speak of one: its inputs, its places, and the vertices in use.
use Rattle.std.specs.Prelude.{◌≡◌, ℕ, ◌/◌, ◌<◌, List, length, vec_items}
use Rattle.aig.specs.declared.vertex.Vertex.{Vertex}
use Rattle.aig.specs.declared.graph.Graph.{Graph}
use Rattle.aig.specs.declared.net.Net.{Net}

abbrev pub inputs_of : Graph → ℕ
inputs_of g = g.inputs

abbrev pub places_of : Graph → ℕ
places_of g = g.places

abbrev pub vertices : Graph → List Vertex
vertices g = vec_items g.table

-- how many vertices are in use
abbrev pub used : Graph → ℕ
used g = length (vertices g)

-- the net is one of a vertex in use
abbrev pub InUse : Graph → Net → Type 0
InUse g x = x.0 / 2 < used g

-- a graph keeps its inputs and its places: a relation of the graph before a call and the graph after it, so no property
-- that the type of one graph could have
pub record SameBounds (g h : Graph) : Type 0 where
  pub inputs : inputs_of h ≡ inputs_of g
  pub places : places_of h ≡ places_of g
