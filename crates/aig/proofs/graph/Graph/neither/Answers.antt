-- What is left to show of `neither`, beyond what the search finds.
use Rattle.aig.proofs.Making.{makes_neither, anded_with, bounds_both}
use Rattle.aig.proofs.graph.Graph.neither.Goals as goal

pub returns : goal.returns
returns c =
    let p = c.and-p.ensures.same in
    let q = bounds_both p c.and-q.ensures.same in
    record {
      made = makes_neither c.requires.second.0 c.requires.second.1 c.and-p.ensures.made (anded_with p.inputs c.and-q.ensures.made)
          c.inverse.ensures c.inverse-2.ensures (anded_with q.inputs c.and.ensures.made);
      same = bounds_both q c.and.ensures.same;
    }
