-- What the loop in `simulate` keeps true: the words filled so far hold the values, and those not yet reached are as they were.
use Rattle.std.proofs.Common.{◌≡◌, ℕ, ◌<◌, ◌≤◌, length, get_or}
use Rattle.aig.specs.Values.{vertex_value}
use Rattle.aig.specs.Graphs.{inputs_of, vertices}
use Rattle.simulation.specs.Lanes.{lane}
use Rattle.simulation.proofs.words.simulate.Given as goal

abbrev pub invariant-loop-v : goal.invariant-loop-v
invariant-loop-v l =
    ((k x : ℕ) → k < length l.codes.list.now → x < l.v → lane l.words k x ≡ vertex_value (inputs_of l.graph) (vertices l.graph) (get_or l.codes.list.now k 0) x)
    × ((x : ℕ) → l.v ≤ x → get_or l.words x 0 ≡ get_or l.initial.words x 0)
