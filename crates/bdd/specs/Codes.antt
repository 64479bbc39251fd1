-- Codes: a number whose bit k from the lowest is the value of input k, which is the variable k + 1.
use Rattle.std.specs.Prelude.{◌≡◌, ℕ, ◌+◌, ◌-◌, ◌/◌, ◌%◌, ◌^◌, ◌<◌, ◌≤◌, Bool, List, ◌==◌}
use Rattle.bdd.specs.declared.store.nodes.Node.{Node}
use Rattle.bdd.specs.Diagram.{node_at, eval, top, Within}

-- the value of a variable under a code
abbrev pub assigned : ℕ → ℕ → Bool
assigned code v = code / 2 ^ (v - 1) % 2 == 1

-- the nodes up to the edge's own look at the inputs 0 to n - 1, which are the variables 1 to n
abbrev pub OverInputs : ℕ → List Node → ℕ → Type 0
OverInputs n ns e = (i : ℕ) → i < e / 2 → (0 < (node_at ns i).var) × ((node_at ns i).var ≤ n)

-- ρ is as the code on the variables below k
abbrev pub Agrees : ℕ → ℕ → (ℕ → Bool) → Type 0
Agrees code k ρ = (u : ℕ) → 0 < u → u < k → ρ u ≡ assigned code u

-- On the way down from two edges, e and f are what the first and the second are under the code's bits so far, and they differ.
pub record Walking (n : ℕ) (ns : List Node) (first second e f code : ℕ) : Type 0 where
  pub next : ℕ
  pub some : 0 < next
  pub few : next ≤ n + 1
  pub e_inside : Within ns e
  pub f_inside : Within ns f
  pub e_back : e / 2 ≤ first / 2
  pub f_back : f / 2 ≤ second / 2
  pub e_later : next ≤ top ns e
  pub f_later : next ≤ top ns f
  pub small : code < 2 ^ (next - 1)
  pub apart : e ≡ f → ⊥
  pub e_is : (ρ : ℕ → Bool) → Agrees code next ρ → eval ns ρ e ≡ eval ns ρ first
  pub f_is : (ρ : ℕ → Bool) → Agrees code next ρ → eval ns ρ f ≡ eval ns ρ second
