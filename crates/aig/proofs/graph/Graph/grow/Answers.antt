-- What is left to show of `grow`, beyond what the search finds.
use Rattle.std.proofs.Common.{◌≡◌, ℕ, ◌*◌, List, [], ◌∷◌, ◌++◌, length, vec_items, sym, ap, ◌∙◌, subst, arith}
use Rattle.aig.specs.Table.{vertex}
use Rattle.aig.specs.Invariant.{Whole}
use Rattle.aig.specs.declared.vertex.Vertex.{Vertex}
use Rattle.aig.proofs.Graphs.{whole_of}
use Rattle.aig.proofs.Growth.{more_whole}
use Rattle.aig.proofs.graph.Graph.grow.Goals as goal

grown : (c : goal.After-push_reserved) → vec_items c.push_reserved.new.self ≡ vec_items c.args.self.now.table ++ vertex c.args.pair.low.0 c.args.pair.high.0 (2 * length (vec_items c.args.self.now.table)) ∷ []
grown c =
    let ok = c.args.self.now.table.ok.0 in
    c.push_reserved.ensures.items ∙ ap (λ (k : ℕ). vec_items c.args.self.now.table ++ vertex c.args.pair.low.0 c.args.pair.high.0 k ∷ []) (omega (arith, c.len.ensures, c.of-net.ensures))

pub invariant_of-self : goal.invariant_of-self
invariant_of-self c =
    let g = c.args.self.now in
    let ok = g.table.ok.0 in
    let w : Whole g.inputs (vec_items c.push_reserved.new.self) =
    subst (λ (t : List Vertex). Whole g.inputs t) (sym (grown c))
    (more_whole (whole_of g) c.args.pair.low.0 c.args.pair.high.0 c.requires.fresh c.requires.first.0 c.requires.first.1 c.requires.second.0 c.requires.second.1 (omega (arith, c.requires.room, g.bounded))) in record {
      narrow = g.narrow;
      bounded = g.bounded;
      reserved = omega (arith, g.reserved, c.push_reserved.ensures.capacity);
      inside = omega (arith, c.push_reserved.ensures.len, c.push_reserved.new.self.ok.0, c.requires.room);
      few = w.few;
      linked = w.linked;
      earlier = w.earlier;
      standing = w.standing;
      proper = w.proper;
      unique = w.unique;
      equal = w.equal;
    }
