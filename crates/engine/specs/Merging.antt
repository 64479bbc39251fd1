-- What an engine may do to a graph: merge vertices that have one function, straight or inverted, and nothing else.
use Rattle.std.specs.Prelude.{◌≡◌, ℕ, ◌<◌, Bool}
use Rattle.aig.specs.Nets.{net_value}
use Rattle.aig.specs.Table.{link_of, Stands}
use Rattle.aig.specs.Values.{vertex_value}
use Rattle.aig.specs.Cascade.{Composed}
use Rattle.aig.specs.Graphs.{inputs_of, places_of, vertices, used}
use Rattle.aig.specs.declared.graph.Graph.{Graph}

-- the function of a vertex, by its code
abbrev pub function_in : Graph → ℕ → ℕ → Bool
function_in g code v = vertex_value (inputs_of g) (vertices g) code v

-- from the graph `g` to the graph `h` there are only merges: inputs, places and the number of vertices in use stay, every
-- vertex keeps its function, a vertex that stands stood before, the survivor after is the survivor of the survivor before,
-- and each vertex has, of the functions in `g`, its new survivor's, straight or inverted
pub record OnlyMerged (g h : Graph) : Type 0 where
  pub inputs : inputs_of h ≡ inputs_of g
  pub places : places_of h ≡ places_of g
  pub number : used h ≡ used g
  pub functions : (code v : ℕ) → v < used g → function_in h code v ≡ function_in g code v
  pub falls : (v : ℕ) → v < used g → Stands (vertices h) v → Stands (vertices g) v
  pub composed : Composed (vertices g) (vertices h)
  pub alike : (code v : ℕ) → v < used g → function_in g code v ≡ net_value (function_in g code) (link_of (vertices h) v)
