-- The marked nodes before i have their images.
use Rattle.bdd.specs.Composing.{Mapping}
use Rattle.bdd.proofs.store.Table.map_diagram.Given as goal

abbrev pub invariant-loop-i : goal.invariant-loop-i
invariant-loop-i l = Mapping l.fn.self l.self l.f l.change.var l.change.by l.i
