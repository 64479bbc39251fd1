-- What is left to show of `new`, beyond what the search finds.
use Rattle.std.proofs.Common.{◌≡◌, suc, List, length, vec_items, sym, ap, subst, arith, rules}
use Rattle.aig.specs.Table.{opening}
use Rattle.aig.specs.Invariant.{Whole}
use Rattle.aig.specs.declared.vertex.Vertex.{Vertex}
use Rattle.aig.proofs.Openings.{row_length, opening_whole}
use Rattle.aig.proofs.graph.Graph.new.Goals as goal

pub push_reserved-requires : goal.push_reserved-requires
push_reserved-requires c =
    let ok = c.loop-v.table.ok.0 in
    let i = c.loop-v.invariant in
    omega (arith, ap length i.0, row_length c.loop-v.v, i.1, c.requires.room)

pub invariant_of-result : goal.invariant_of-result
invariant_of-result c =
    let opened : vec_items c.loop-v-test.table ≡ opening c.args.inputs = search rules in
    let w : Whole c.args.inputs (vec_items c.loop-v-test.table) =
    subst (λ (t : List Vertex). Whole c.args.inputs t) (sym opened) (opening_whole c.args.inputs (omega (arith, c.requires.narrow))) in record {
      narrow = c.requires.narrow;
      bounded = c.requires.bounded;
      reserved = search rules;
      inside = omega (arith, ap length opened, row_length (suc c.args.inputs), c.requires.room);
      few = w.few;
      linked = w.linked;
      earlier = w.earlier;
      standing = w.standing;
      proper = w.proper;
      unique = w.unique;
      equal = w.equal;
    }
