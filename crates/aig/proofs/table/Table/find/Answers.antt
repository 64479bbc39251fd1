-- The vertex that was found has the pair, and where none was found none has it.
use Rattle.std.proofs.Common.{ℕ, sym, subst, arith, rules}
use Rattle.aig.specs.Pairs.{Present, at}
use Rattle.aig.proofs.table.Table.find.Goals as goal

pub returns-then-self-v : goal.returns-then-self-v
returns-then-self-v c = subst (λ (k : ℕ). Present c.args.self.inputs c.args.self.vertices.now c.args.pair.low.0 c.args.pair.high.0 k) (sym c.of.ensures)
    (at c.loop-v.v (record { after = omega arith; inside = omega arith; stands = search rules }) (search rules) (search rules))

pub returns : goal.returns
returns c = λ v s l r. c.loop-v.invariant v s.after (omega (arith, s.inside)) s.stands l r
