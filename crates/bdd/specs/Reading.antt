-- Which variables a function depends on, and the first of them above a bound.
use Rattle.std.specs.Prelude.{◌≡◌, ℕ, ◌<◌, min, nat_lt, Bool, ◌&&◌, Option, List, map, filter}
use Rattle.std.specs.List.{reduce, zip}
use Rattle.bdd.specs.declared.store.nodes.Node.{Node}
use Rattle.bdd.specs.Size.{with_input}

-- the value of the variable v makes no difference
abbrev pub Ignores : ((ℕ → Bool) → Bool) → ℕ → Type 0
Ignores φ v = (ρ : ℕ → Bool) (b : Bool) → φ (with_input ρ v b) ≡ φ ρ

-- v is the least variable above the bound that φ depends on
pub record Topmost (φ : (ℕ → Bool) → Bool) (bound v : ℕ) : Type 0 where
  pub above : bound < v
  pub bounded : v < 4096
  pub depends : Ignores φ v → ⊥
  pub least : (u : ℕ) → bound < u → u < v → Ignores φ u

-- the least variable above the bound of the marked among the nodes
abbrev pub least_of : List Node → List Bool → ℕ → Option ℕ
least_of ns ms bound = reduce min (map (λ p. p.0.var) (filter (λ p. p.1 && nat_lt bound p.0.var) (zip ns ms)))
