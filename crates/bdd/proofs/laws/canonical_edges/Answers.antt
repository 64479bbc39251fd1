-- Canonicity, and the same for the inverse edge.
use Rattle.std.proofs.Common.{sym, ◌∙◌, arith}
use Rattle.bdd.specs.Diagram.{flip}
use Rattle.bdd.proofs.Values.{eval_flip, flip_half}
use Rattle.bdd.proofs.Canon.{same_edge}
use Rattle.bdd.proofs.laws.canonical_edges.Goals as goal

pub returns : goal.returns
returns c = record {
  same = same_edge;
  inverse = λ ns e f good in_e in_f opposite. same_edge ns e (flip f) good in_e (omega (arith, flip_half f)) (λ ρ. opposite ρ ∙ sym (eval_flip ns ρ f));
}
