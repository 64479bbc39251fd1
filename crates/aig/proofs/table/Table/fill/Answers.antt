-- What is left to show of `fill`, beyond what the search finds.
use Rattle.std.proofs.Common.{ℕ, eqb, ◌∙◌, arith}
use mir.Val.{bool_byte}
use Rattle.aig.proofs.Filling.{byte_held, filled_more}
use Rattle.aig.proofs.table.Table.fill.Goals as goal

pub loop-v-preserved : goal.loop-v-preserved
loop-v-preserved c =
    rw c.from.ensures
    (filled_more c.args.self.inputs c.args.self.vertices.now c.requires.earlier c.args.code (λ (x : ℕ). eqb x 1) c.loop-v.words c.loop-v.v (bool_byte c.vertex_bit.result)
    (omega arith) (omega arith) (byte_held c.vertex_bit.result ∙ c.vertex_bit.ensures) c.loop-v.invariant)
