-- The loop of a merge over the readers of the merged vertex.
use Rattle.std.proofs.Common.{◌≡◌, ℕ, suc, ◌/◌, ◌<◌, ◌≤◌, List, length}
use Rattle.aig.specs.Table.{link_of}
use Rattle.aig.specs.Cascade.{Step, Stale}
use Rattle.aig.specs.Algebras.{Follows}
use Rattle.aig.specs.declared.vertex.Vertex.{Vertex}

-- the readers of `g` before the place `i` are rehashed: from the table `t` as `g` was relinked to the table `s`
pub record Sweeping (n : ℕ) (t : List Vertex) (g i : ℕ) (s : List Vertex) : Type 0 where
  pub step : Step n t (suc g) s
  pub low : (v : ℕ) → v < length t → link_of t v / 2 ≤ v
  pub stale : (x o : ℕ) → Stale n s x o → Stale n t x o × (o ≡ g → i ≤ x)
  pub follows : Follows n t s
