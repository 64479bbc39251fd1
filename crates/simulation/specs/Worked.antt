-- Worked lists of codes with two inputs: where XOR and AND, and XOR and an input, first differ.
use Rattle.std.specs.Prelude.{◌≡◌, ℕ, List, [], ◌∷◌, Some, None, Option}
use Rattle.aig.specs.declared.vertex.Vertex.{Vertex}
use Rattle.aig.specs.Table.{vertex}
use Rattle.aig.specs.Values.{value}
use Rattle.simulation.specs.Earliest.{earliest}

-- the constant, inputs 0 and 1 (nets 2 and 4), their AND (net 6), the AND of their inverses (net 8), and from these XOR (net 10)
abbrev pub table : List Vertex
table = vertex 0 0 0 ∷ vertex 0 0 2 ∷ vertex 0 0 4 ∷ vertex 2 4 6 ∷ vertex 3 5 8 ∷ vertex 7 9 10 ∷ []

abbrev pub first : List ℕ → ℕ → ℕ → Option ℕ
first codes x y = earliest codes (value 2 table x) (value 2 table y)

pub record Worked : Type 0 where
  pub xor_and : first (0 ∷ 1 ∷ 2 ∷ 3 ∷ []) 10 6 ≡ Some 1
  pub xor_and_sparse : first (0 ∷ 3 ∷ []) 10 6 ≡ Some 1
  pub xor_and_none : first (0 ∷ []) 10 6 ≡ None
  pub xor_input : first (0 ∷ 1 ∷ 2 ∷ 3 ∷ []) 10 2 ≡ Some 2
