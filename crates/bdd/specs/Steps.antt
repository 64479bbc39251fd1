-- What the steps of a conjunction give: a cofactor, a node, the conjunction itself, or the node that is wanting.
use Rattle.std.specs.Prelude.{◌≡◌, ℕ, ◌+◌, ◌*◌, ◌/◌, ◌<◌, ◌≤◌, min, Bool, true, false, ◌&&◌, ◌⊎◌, List, [], ◌∷◌, ◌++◌, length}
use Rattle.bdd.specs.declared.store.nodes.Node.{Node}
use Rattle.bdd.specs.Diagram.{node_at, eval, top, Good, Within}
use Rattle.bdd.specs.Parts.{News, conj}

pub record Cofactor (ns : List Node) (e v : ℕ) (b : Bool) (r : ℕ) : Type 0 where
  pub inside : Within ns r
  pub later : v < top ns r
  pub no_deeper : r / 2 ≤ e / 2
  pub deeper : top ns e ≡ v → r / 2 < e / 2
  pub value_is : (ρ : ℕ → Bool) → ρ v ≡ b → eval ns ρ r ≡ eval ns ρ e

pub record Both (ns ms : List Node) (f g r : ℕ) : Type 0 where
  pub inside : Within ms r
  pub first : (v : ℕ) → v ≤ top ns f → v ≤ top ns g → v ≤ top ms r
  pub value_is : (ρ : ℕ → Bool) → eval ms ρ r ≡ (eval ns ρ f && eval ns ρ g)

-- the edge e goes straight to the node n, which ns had or which is the last of ms
pub record Placed (ns ms : List Node) (n : Node) (e : ℕ) : Type 0 where
  pub place : ℕ
  pub edge_is : e ≡ 2 * (place + 1)
  pub inside : place < length ms
  pub node_is : node_at ms place ≡ n
  pub news : (ms ≡ ns) ⊎ ((ms ≡ ns ++ n ∷ []) × (place ≡ length ns))

pub record Made (ns ms : List Node) (v h l r : ℕ) : Type 0 where
  pub inside : Within ms r
  pub first : v ≤ top ms r
  pub high_is : (ρ : ℕ → Bool) → ρ v ≡ true → eval ms ρ r ≡ eval ns ρ h
  pub low_is : (ρ : ℕ → Bool) → ρ v ≡ false → eval ms ρ r ≡ eval ns ρ l
  pub news : (ms ≡ ns) ⊎ ((length ms ≡ length ns + 1) × (r / 2 ≡ length ns + 1) × ((node_at ms (length ns)).var ≡ v))

-- the node that is wanting
pub record Short (ns : List Node) (v h l : ℕ) : Type 0 where
  pub extra : Node
  pub result : ℕ
  pub good : Good (ns ++ extra ∷ [])
  pub made : Made ns (ns ++ extra ∷ []) v h l result

-- the nodes of ms past those of ns are parts of the conjunction
abbrev pub Parts : List Node → List Node → ℕ → ℕ → Type 0
Parts ns ms f g = News (length ns) (min (top ns f) (top ns g)) (conj ns f g) ms

-- one node more than the table has room for, and every new node is a part of the conjunction
pub record Lacking (ns ms : List Node) (f g : ℕ) : Type 0 where
  pub extra : Node
  pub good : Good (ms ++ extra ∷ [])
  pub parts : Parts ns (ms ++ extra ∷ []) f g
