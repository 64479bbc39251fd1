-- A refusal is cut back to the mark.
use Rattle.std.proofs.Common.{List, vec_items, sym, ◌∙◌}
use Rattle.bdd.specs.declared.store.nodes.Node.{Node}
use Rattle.bdd.specs.Contents.{nodes_of, limit_of}
use Rattle.bdd.specs.Composing.{NoRoom, Denotes, ComposeStep, carried, composed}
use Rattle.bdd.proofs.Values.{grown_take, none_case}
use Rattle.bdd.proofs.store.Table.compose.Goals as goal

pub returns-then-is_none : goal.returns-then-is_none
returns-then-is_none c =
    let ns : List Node = nodes_of c.args.self.now in
    let u = c.map_diagram.new.self in
    let x = c.map_diagram.ensures.extends in (
      record {
        nodes = c.cut.ensures.nodes ∙ sym (grown_take ns (nodes_of u) c.len-mark.result (sym c.len-mark.ensures) x.grown);
        limit_is = c.cut.ensures.limit ∙ x.limit_is;
      },
      none_case c.map_diagram.result (NoRoom (ComposeStep ns c.args.f c.args.v c.args.g) ns (limit_of c.args.self.now))
          (λ _. Denotes (nodes_of u) (carried (vec_items u.images) c.args.f) (composed ns c.args.v c.args.g c.args.f)) c.if-is_none.ensures c.map_diagram.ensures.cases,
    )
