-- Words of workspace that hold the values of the vertices under up to 64 codes: a word a vertex, a bit of it a code.
use Rattle.std.specs.Prelude.{◌≡◌, ℕ, ◌<◌, ◌≤◌, Bool, List, length, slice_index}
use Rattle.aig.specs.Values.{bit, vertex_value}
use Rattle.aig.specs.Graphs.{inputs_of, vertices, used}
use Rattle.aig.specs.declared.graph.Graph.{Graph}

-- the value of the vertex `v` that the words hold for code `k`: bit `k` of word `v`
abbrev pub lane : List ℕ → ℕ → ℕ → Bool
lane words k v = bit (slice_index words v) k

-- bit `k` of the word of each vertex in use is the vertex's value under code `k`
abbrev pub Simulated : Graph → List ℕ → List ℕ → Type 0
Simulated g codes words =
    (k v : ℕ) → k < length codes → v < used g → lane words k v ≡ vertex_value (inputs_of g) (vertices g) (slice_index codes k) v

-- the words beyond those of the vertices in use are as they were
abbrev pub RestKept : Graph → List ℕ → List ℕ → Type 0
RestKept g before after = (v : ℕ) → used g ≤ v → slice_index after v ≡ slice_index before v
