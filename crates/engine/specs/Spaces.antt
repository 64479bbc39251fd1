-- The sizes of a workspace. What it holds is scratch: nothing speaks of it.
use Rattle.std.specs.Prelude.{◌≡◌, ℕ, length, vec_items}
use Rattle.engine.specs.declared.workspace.Workspace.{Workspace}

-- how many words there are
abbrev pub words_of : Workspace → ℕ
words_of w = length (vec_items w.words)

-- the length of the node table
abbrev pub nodes_of : Workspace → ℕ
nodes_of w = w.nodes

-- the sizes stay
pub record SameSizes (w w' : Workspace) : Type 0 where
  pub words : words_of w' ≡ words_of w
  pub nodes : nodes_of w' ≡ nodes_of w
