-- Both ways round, the result is the edge with its last bit turned.
use Rattle.std.proofs.Common.{◌≡◌, ◌+◌, ◌-◌, ap, ◌∙◌, arith}
use Rattle.bdd.specs.Diagram.{eval, flip}
use Rattle.bdd.proofs.Values.{eval_flip}
use Rattle.bdd.proofs.edges.inverse.Goals as goal

pub returns-then-is_inverted-clause-meaning : goal.returns-then-is_inverted-clause-meaning
returns-then-is_inverted-clause-meaning c ns ρ =
    let is : c.args.e - 1 ≡ flip c.args.e = omega (arith, c.if-is_inverted.ensures) in
    ap (eval ns ρ) is ∙ eval_flip ns ρ c.args.e

pub returns-else-is_inverted-clause-meaning : goal.returns-else-is_inverted-clause-meaning
returns-else-is_inverted-clause-meaning c ns ρ =
    let is : c.args.e + 1 ≡ flip c.args.e = omega (arith, c.if-is_inverted.ensures) in
    ap (eval ns ρ) is ∙ eval_flip ns ρ c.args.e
