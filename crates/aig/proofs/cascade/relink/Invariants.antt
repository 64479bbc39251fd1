-- What the loop in `relink` keeps true.
use Rattle.aig.proofs.Relinks.{Relinking}
use Rattle.aig.proofs.cascade.relink.Given as goal

abbrev pub invariant-loop-vertex : goal.invariant-loop-vertex
invariant-loop-vertex l = Relinking l.initial.table l.keep.0 l.gone l.vertex-index l.table
