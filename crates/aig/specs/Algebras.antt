-- Algebras with the laws by which an AND folds. What holds of a graph in every one of them follows from these laws, from
-- the graph's own ANDs and links, and from nothing else: so it is forced.
use Rattle.std.specs.Prelude.{◌≡◌, ℕ, ◌<◌, Bool, false, not, ◌&&◌, List, length}
use Rattle.std.proofs.Math.Bool.{not-not, and_self, and-not_self, and_comm}
use Rattle.aig.specs.declared.vertex.Vertex.{Vertex}
use Rattle.aig.specs.Nets.{net_in}
use Rattle.aig.specs.Table.{left_of, right_of, link_of}

pub record Algebra (X : Type 0) : Type 0 where
  pub bottom : X
  pub opposite : X → X
  pub both : X → X → X
  pub opposite_twice : (x : X) → opposite (opposite x) ≡ x
  pub with_bottom : (x : X) → both bottom x ≡ bottom
  pub with_top : (x : X) → both (opposite bottom) x ≡ x
  pub with_itself : (x : X) → both x x ≡ x
  pub with_opposite : (x : X) → both x (opposite x) ≡ bottom
  pub swapped : (x y : X) → both x y ≡ both y x

-- the carriers that are spoken of: the two bits, and the numbers, which serve for any countable set
pub data Carrier : Type 0 where
  bits : Carrier
  numbers : Carrier

abbrev pub Of : Carrier → Type 0
Of bits = Bool
Of numbers = ℕ

-- the value of a net in an algebra
abbrev pub net_at : {X : Type 0} → Algebra X → (ℕ → X) → ℕ → X
net_at A ρ x = net_in A.opposite ρ x

-- `ρ` gives vertex 0 the bottom, each AND-vertex the AND of its operands, and each vertex the value of its link
pub record Respects {X : Type 0} (A : Algebra X) (n : ℕ) (ρ : ℕ → X) (t : List Vertex) : Type 0 where
  pub base : ρ 0 ≡ A.bottom
  pub gates : (v : ℕ) → n < v → v < length t → ρ v ≡ A.both (net_at A ρ (left_of t v)) (net_at A ρ (right_of t v))
  pub links : (v : ℕ) → v < length t → ρ v ≡ net_at A ρ (link_of t v)

-- whatever respects one table respects the other
abbrev pub Follows : ℕ → List Vertex → List Vertex → Type 0
Follows n t t' = (c : Carrier) (A : Algebra (Of c)) (ρ : ℕ → Of c) → Respects A n ρ t → Respects A n ρ t'

-- whatever respects one table and gives the net `keep` and the vertex `gone` one value respects the other
abbrev pub Forced : ℕ → List Vertex → ℕ → ℕ → List Vertex → Type 0
Forced n t keep gone t' = (c : Carrier) (A : Algebra (Of c)) (ρ : ℕ → Of c) → Respects A n ρ t → net_at A ρ keep ≡ ρ gone → Respects A n ρ t'

-- the bits are such an algebra
abbrev pub booleans : Algebra Bool
booleans = record {
  bottom = false;
  opposite = not;
  both = ◌&&◌;
  opposite_twice = not-not;
  with_bottom = λ x i. false;
  with_top = λ x i. x;
  with_itself = and_self;
  with_opposite = and-not_self;
  swapped = and_comm;
}
