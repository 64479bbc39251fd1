use Rattle.std.proofs.Common.{subst, inr}
use Rattle.engine.specs.Questions.{Question}
use Rattle.engine.proofs.Turns.{asked_same, chain_asked}
use Rattle.engine.proofs.chain.chained.Goals as goal

pub returns-in-Undecided : goal.returns-in-Undecided
returns-in-Undecided g c =
    let x = c.in-Undecided.ensures in
    let y = c.ask-in-Undecided.ensures in
    let second = g.Q.Engine.gives c.args.second.now in
    record {
      asked = chain_asked c.requires x.asked y.asked;
      given = inr (x.given, subst (λ (q : Question). second q c.ask-in-Undecided.result) (asked_same c.requires x.asked.merged x.asked.sizes) y.given);
    }
