-- The loop of `relink`: the links that it has taken over so far.
use Rattle.std.proofs.Common.{◌≡◌, ℕ, ◌/◌, ◌<◌, ◌≤◌, cond, eqb, List, get_or}
use Rattle.aig.specs.Nets.{carried}
use Rattle.aig.specs.Table.{net, none}
use Rattle.aig.specs.declared.vertex.Vertex.{Vertex}

-- a vertex with its link at `g` taken to `keep`
abbrev pub relinked : ℕ → ℕ → Vertex → Vertex
relinked keep g x = record { left = x.left; right = x.right; link = net (cond (eqb (x.link.0 / 2) g) (carried keep x.link.0) x.link.0) }

pub record Relinking (e : List Vertex) (keep g i : ℕ) (s : List Vertex) : Type 0 where
  pub done : (v : ℕ) → v < i → get_or s v none ≡ relinked keep g (get_or e v none)
  pub todo : (v : ℕ) → i ≤ v → get_or s v none ≡ get_or e v none
