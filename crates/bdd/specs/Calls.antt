-- What the public calls promise of the table.
use Rattle.std.specs.Prelude.{◌≡◌, ℕ, ◌<◌, ◌≤◌, Bool, length}
use Rattle.bdd.specs.declared.store.Table.{Table}
use Rattle.bdd.specs.Diagram.{eval, Within, Grown}
use Rattle.bdd.specs.Parts.{PartOf}
use Rattle.bdd.specs.Laws.{TooMany}
use Rattle.bdd.specs.Contents.{nodes_of, limit_of}

-- only scratch differs
pub record Unchanged (t u : Table) : Type 0 where
  pub nodes : nodes_of u ≡ nodes_of t
  pub limit_is : limit_of u ≡ limit_of t

-- The edge e has the function φ. The nodes that were there stay, and each new one is a part of φ.
pub record Built (t u : Table) (φ : (ℕ → Bool) → Bool) (e : ℕ) : Type 0 where
  pub limit_is : limit_of u ≡ limit_of t
  pub grown : Grown (nodes_of t) (nodes_of u)
  pub inside : Within (nodes_of u) e
  pub value_is : (ρ : ℕ → Bool) → eval (nodes_of u) ρ e ≡ φ ρ
  pub parts : (i : ℕ) → length (nodes_of t) ≤ i → i < length (nodes_of u) → PartOf (nodes_of u) φ i

-- There is no room for φ: it and the functions held have together too many nodes. The nodes are as they were.
pub record Refused (t u : Table) (φ : (ℕ → Bool) → Bool) : Type 0 where
  pub same : Unchanged t u
  pub too_many : TooMany (nodes_of t) (limit_of t) φ
