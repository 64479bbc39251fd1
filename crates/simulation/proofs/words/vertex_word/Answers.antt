-- What is left to show of `vertex_word`: the AND of two words, bit by bit.
use Rattle.std.proofs.Common.{◌<◌, Bool, ◌&&◌, get_or, sym, ap, ◌∙◌, arith}
use Rattle.aig.specs.Nets.{net_value}
use Rattle.aig.specs.Graphs.{inputs_of, vertices}
use Rattle.aig.specs.Values.{bit}
use Rattle.aig.specs.declared.vertex.Vertex.{Vertex}
use Rattle.aig.proofs.Valued.{by_gate}
use Rattle.simulation.specs.Lanes.{lane}
use Rattle.simulation.proofs.Bitwise.{bit-bit_and}
use Rattle.simulation.proofs.words.vertex_word.Goals as goal

pub returns-else-v-inputs : goal.returns-else-v-inputs
returns-else-v-inputs c k h =
    let g = c.args.graph.now in
    let ρ = lane c.args.words.now k in
    let low : k < 64 = omega arith in
    let after : inputs_of g < c.args.v = omega arith in
    bit-bit_and c.net_word.result c.net_word-else-v-inputs.result k
    ∙ ap (λ (b : Bool). b && bit c.net_word-else-v-inputs.result k) (c.net_word.ensures k low)
    ∙ ap (λ (b : Bool). net_value ρ c.vertex-gate.result.left.0 && b) (c.net_word-else-v-inputs.ensures k low)
    ∙ ap (λ (x : Vertex). net_value ρ x.left.0 && net_value ρ x.right.0) c.vertex-gate.ensures
    ∙ sym (by_gate (inputs_of g) (vertices g) (get_or c.args.codes.list.now k 0) ρ c.args.v after)
