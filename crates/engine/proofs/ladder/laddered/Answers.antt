use Rattle.std.proofs.Common.{subst, inr}
use Rattle.engine.specs.Questions.{Question}
use Rattle.engine.specs.Asked.{asked_of}
use Rattle.engine.specs.declared.answer.Answer.TheVariants.{Undecided}
use Rattle.engine.specs.declared.query.Query.{Query}
use Rattle.engine.proofs.Turns.{asked_same, ladder_asked}
use Rattle.engine.proofs.ladder.laddered.Goals as goal

pub returns-in-Undecided : goal.returns-in-Undecided
returns-in-Undecided g c =
    let low = c.lowered.ensures in
    let x = c.in-Undecided.ensures in
    let y = c.ask-in-Undecided.ensures in
    let below = g.P.Engine.gives c.args.below.now in
    record {
      asked = ladder_asked low c.requires x.asked y.asked;
      given = inr (
        subst (λ (l : Query). below (asked_of c.args.graph.now l c.args.workspace.now) Undecided) low x.given,
        subst (λ (q : Question). below q c.ask-in-Undecided.result) (asked_same c.requires x.asked.merged x.asked.sizes) y.given,
      );
    }
