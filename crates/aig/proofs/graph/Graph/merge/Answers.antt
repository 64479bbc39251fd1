-- What is left to show of `merge`, beyond what the search finds.
use Rattle.std.proofs.Common.{refl}
use Rattle.aig.proofs.Graphs.{graph_ready, graph_whole, graph_after, graph_inside}
use Rattle.aig.proofs.graph.Graph.merge.Goals as goal

pub merge-requires : goal.merge-requires
merge-requires c = graph_ready c.args.self.now c.deref_mut.ensures.value c.requires

pub invariant_of-self : goal.invariant_of-self
invariant_of-self c =
    let g = c.args.self.now in
    let w = graph_whole g c.deref_mut.ensures.value c.requires c.merge.ensures in record {
      narrow = g.narrow;
      bounded = g.bounded;
      reserved = g.reserved;
      inside = graph_inside g c.deref_mut.ensures.value c.requires c.merge.ensures;
      few = w.few;
      linked = w.linked;
      earlier = w.earlier;
      standing = w.standing;
      proper = w.proper;
      unique = w.unique;
      equal = w.equal;
    }

pub returns : goal.returns
returns c = record {
  after = graph_after c.args.self.now c.deref_mut.ensures.value c.requires c.merge.ensures;
  same = record { inputs = refl; places = refl };
}
