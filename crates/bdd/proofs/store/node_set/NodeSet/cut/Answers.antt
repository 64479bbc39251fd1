-- The nodes that are left are the first ones, as many as the mark says.
use Rattle.std.proofs.Common.{◌≡◌, List, length, vec_items, arith}
use Rattle.bdd.specs.declared.store.nodes.Node.{Node}
use Rattle.bdd.proofs.Values.{grown_take}
use Rattle.bdd.proofs.store.node_set.NodeSet.cut.Goals as goal

pub returns-clause-nodes : goal.returns-clause-nodes
returns-clause-nodes c =
    let inv = c.loop-self.invariant in
    let ns : List Node = vec_items c.loop-self.self.nodes in
    let done : length ns ≡ c.args.mark = omega (arith, inv.0, c.loop-self-test.false) in
    grown_take ns (vec_items c.args.self.now.nodes) c.args.mark done inv.2
