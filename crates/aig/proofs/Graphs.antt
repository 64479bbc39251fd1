-- A graph's invariant as one record, and its table under a merge.
use Rattle.std.proofs.Common.{◌≡◌, ℕ, ◌≤◌, List, length, vec_items, sym, subst, arith}
use Rattle.std.specs.Vec.{with_items}
use Rattle.std.proofs.lemmas.List.{with_items_is}
use Rattle.aig.specs.Cascade.{Ready, Merged}
use Rattle.aig.specs.Invariant.{Whole}
use Rattle.aig.specs.Merges.{Mergeable, AfterMerge}
use Rattle.aig.specs.declared.vertex.Vertex.{Vertex}
use Rattle.aig.specs.declared.graph.Graph.{Graph}
use Rattle.aig.proofs.Wholes.{ready_of, merged_whole, merged_after}

pub whole_of : (g : Graph) → Whole g.inputs (vec_items g.table)
whole_of g = record {
  small = omega (arith, g.bounded, g.inside);
  few = g.few;
  linked = g.linked;
  earlier = g.earlier;
  standing = g.standing;
  proper = g.proper;
  unique = g.unique;
  equal = g.equal;
}

module _ (g : Graph) {keep gone : ℕ} {d : List Vertex} (e : d ≡ vec_items g.table) (m : Mergeable g.inputs (vec_items g.table) keep gone) where
  pub graph_ready : Ready g.inputs d keep gone
  graph_ready = subst (λ (t : List Vertex). Ready g.inputs t keep gone) (sym e) (ready_of (whole_of g) m)

  module _ {u : List Vertex} (r : Merged g.inputs d keep gone u) where
    merged : Merged g.inputs (vec_items g.table) keep gone u
    merged = subst (λ (t : List Vertex). Merged g.inputs t keep gone u) e r

    items : vec_items (with_items g.table u) ≡ u
    items = with_items_is g.table u (omega (arith, merged.step.long, g.table.ok.0))

    pub graph_whole : Whole g.inputs (vec_items (with_items g.table u))
    graph_whole = subst (λ (t : List Vertex). Whole g.inputs t) (sym items) (merged_whole (whole_of g) m merged)

    pub graph_after : AfterMerge g.inputs (vec_items g.table) keep gone (vec_items (with_items g.table u))
    graph_after = subst (λ (t : List Vertex). AfterMerge g.inputs (vec_items g.table) keep gone t) (sym items) (merged_after (whole_of g) m merged)

    pub graph_inside : length (vec_items (with_items g.table u)) ≤ g.places
    graph_inside = omega (arith, graph_after.long, g.inside)
