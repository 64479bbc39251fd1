-- Marks on the nodes that an edge leads to.
use Rattle.std.specs.Prelude.{◌≡◌, ℕ, zero, suc, ◌/◌, ◌<◌, ◌≤◌, Bool, true, false, List, slice_index_or, slice_set}
use Rattle.bdd.specs.declared.store.nodes.Node.{Node}
use Rattle.bdd.specs.Diagram.{node_at, eval}
use Rattle.bdd.specs.Parts.{PartOf}

-- the place j is the constant, or is marked
abbrev pub Marked : (ℕ → Bool) → ℕ → Type 0
Marked m zero = Unit {0}
Marked m (suc j) = m j ≡ true

-- The marks m are on the n first nodes: those marked are parts of e's function, e's own is marked, and from i on each one's children are.
pub record Marks (ns : List Node) (e n i : ℕ) (m : ℕ → Bool) : Type 0 where
  pub part : (k : ℕ) → k < n → m k ≡ true → PartOf ns (λ ρ. eval ns ρ e) k
  pub closed : (k : ℕ) → i ≤ k → k < n → m k ≡ true → Marked m ((node_at ns k).high / 2) × Marked m ((node_at ns k).low / 2)
  pub root : Marked m (e / 2)

abbrev pub at : List Bool → ℕ → Bool
at ms k = slice_index_or ms k false

abbrev pub with_mark : List Bool → ℕ → List Bool
with_mark ms zero = ms
with_mark ms (suc j) = slice_set ms j true
