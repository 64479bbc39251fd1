-- The node that was added is the last.
use Rattle.std.proofs.Common.{vec_items, sym, subst}
use Rattle.bdd.specs.Diagram.{Grown}
use Rattle.bdd.specs.Contents.{nodes_of}
use Rattle.bdd.proofs.Values.{grown_push}
use Rattle.bdd.proofs.Chains.{all_right_kept}
use Rattle.bdd.proofs.store.Table.place.Goals as goal

pub invariant_of-self-clause-cached : goal.invariant_of-self-clause-cached
invariant_of-self-clause-cached c =
    let t = c.args.self.now in
    let grown : Grown (nodes_of t) (vec_items c.link.new.self.nodes) = subst (Grown (nodes_of t)) (sym c.link.ensures.items) (grown_push (nodes_of t) c.args.n.now) in
    all_right_kept (nodes_of t) (vec_items c.link.new.self.nodes) (vec_items t.cache.entries) t.cache.stamp t.set.good grown t.cached
