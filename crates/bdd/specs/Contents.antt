-- What a table holds, and what a step inside the table keeps.
use Rattle.std.specs.Prelude.{◌≡◌, ℕ, ◌≤◌, List, length, vec_items}
use Rattle.bdd.specs.declared.store.nodes.Node.{Node}
use Rattle.bdd.specs.declared.store.Table.{Table}
use Rattle.bdd.specs.Diagram.{Grown}

-- the nodes of a table
abbrev pub nodes_of : Table → List Node
nodes_of t = vec_items t.set.nodes

-- how many nodes it has room for
abbrev pub limit_of : Table → ℕ
limit_of t = t.set.limit

-- what a step that adds nodes keeps
pub record Kept (t u : Table) : Type 0 where
  pub grown : Grown (nodes_of t) (nodes_of u)
  pub limit_is : limit_of u ≡ limit_of t
  pub marks_is : u.marks ≡ t.marks
  pub images_is : u.images ≡ t.images

-- a full table, that is as it was
abbrev pub Full : Table → Table → Type 0
Full t u = (limit_of t ≤ length (nodes_of t)) × (u ≡ t)
