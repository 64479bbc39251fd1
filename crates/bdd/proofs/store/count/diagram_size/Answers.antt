-- As many nodes are marked as the function has parts.
use Rattle.std.proofs.Common.{◌/◌, take, ap, ◌∙◌, arith, rules}
use Rattle.std.specs.List.{count_by}
use Rattle.bdd.specs.Marking.{at}
use Rattle.bdd.proofs.Marks.{count_tally, sizing}
use Rattle.bdd.proofs.store.count.diagram_size.Goals as goal

pub returns : goal.returns
returns c = λ vs asc vars.
    let ms = c.mark_diagram.new.marks in
    c.count_marks.ensures ∙ ap (λ n. count_by (λ b. b) (take n ms)) c.place_of.ensures ∙ count_tally ms (c.args.e / 2) (search rules)
    ∙ sizing c.args.nodes.now vs c.args.e (c.args.e / 2) (at ms) c.requires.good asc vars (omega arith) c.requires.within c.mark_diagram.ensures
