-- What is left to show of `simulate`: one more word keeps the invariant of its loop.
use Rattle.std.proofs.Common.{ℕ, ◌<◌, length, get_or, ◌∙◌, arith, get_or-set_other}
use Rattle.aig.specs.Graphs.{inputs_of, vertices}
use Rattle.aig.specs.Values.{bit}
use Rattle.aig.proofs.Graphs.{whole_of}
use Rattle.aig.proofs.Filling.{filled_more}
use Rattle.simulation.proofs.words.simulate.Goals as goal

pub loop-v-preserved : goal.loop-v-preserved
loop-v-preserved c =
    let g = c.args.graph.now in
    let words = c.loop-v.words in
    let v = c.loop-v.v in
    let w = c.vertex_word.result in
    let inside : v < length (vertices g) = omega arith in
    let there : v < length words = omega arith in (
      λ k x hk. filled_more (inputs_of g) (vertices g) (whole_of g).earlier (get_or c.args.codes.list.now k 0) (λ (y : ℕ). bit y k) words v w inside there
          (c.vertex_word.ensures k hk) (λ y hy. c.loop-v.invariant.0 k y hk hy) x,
      λ x h. get_or-set_other words v x w 0 (λ p. omega arith) ∙ c.loop-v.invariant.1 x (omega arith),
    )
