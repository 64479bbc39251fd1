-- The child of the edge's node, turned as the edge is.
use Rattle.std.proofs.Common.{◌-◌, get_or, sym, ap, ◌∙◌}
use Rattle.bdd.specs.Diagram.{turn}
use Rattle.bdd.specs.Contents.{nodes_of}
use Rattle.bdd.proofs.Values.{cofactor_read}
use Rattle.bdd.proofs.store.Table.cofactor.Goals as goal

pub returns : goal.returns
returns c =
    cofactor_read (nodes_of c.args.self.now) c.args.e c.args.v c.turned.result c.index-n.result.now c.args.value c.args.self.now.set.good c.requires.within
    (sym c.top.ensures ∙ c.if-top-v.false) c.requires.inner
    (c.index-n.ensures ∙ ap (λ p. get_or (nodes_of c.args.self.now) (p - 1) c.index-n.result.now) c.place_of.ensures)
    (c.turned.ensures ∙ ap (turn c.args.e) c.child.ensures)
