-- What a session holds: its inputs, the places of its table, and the vertices in use.
use Rattle.std.specs.Prelude.{ℕ, List, length}
use Rattle.aig.specs.declared.vertex.Vertex.{Vertex}
use Rattle.aig.specs.Graphs as graphs
use Rattle.comparer.specs.declared.session.Session.{Session}

abbrev pub inputs_of : Session → ℕ
inputs_of s = graphs.inputs_of s.graph

abbrev pub places_of : Session → ℕ
places_of s = graphs.places_of s.graph

abbrev pub vertices : Session → List Vertex
vertices s = graphs.vertices s.graph

abbrev pub used : Session → ℕ
used s = length (vertices s)
