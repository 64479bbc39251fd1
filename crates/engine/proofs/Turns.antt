-- Two engines in turn: the second is asked on the graph that the first left, and that is the same question.
use Rattle.std.proofs.Common.{◌≡◌, ℕ, ◌^◌, ◌<◌, not, sym, refl, ap, ◌∙◌, subst, arith}
use Rattle.aig.specs.Graphs.{inputs_of, vertices}
use Rattle.aig.specs.declared.graph.Graph.{Graph}
use Rattle.engine.specs.Questions.{question}
use Rattle.engine.specs.Piles.{Pile, chain, ladder, rung, Outside}
use Rattle.engine.specs.Merging.{OnlyMerged}
use Rattle.engine.specs.Spaces.{nodes_of, SameSizes}
use Rattle.engine.specs.Asked.{asked_of, Askable, Asked}
use Rattle.engine.specs.declared.answer.Answer.{Answer}
use Rattle.engine.specs.declared.answer.Answer.TheVariants.{Undecided}
use Rattle.engine.specs.declared.query.Query.{Query}
use Rattle.engine.specs.declared.workspace.Workspace.{Workspace}
use Rattle.engine.proofs.Merges.{same_value, same_question, still_used, merged_again}
use Rattle.engine.proofs.Reaches.{outside_chain, outside_ladder}

-- a graph that was only merged, with workspace of the same sizes, may be asked the same, and is put the same question
module _ {g h : Graph} {q : Query} {w w1 : Workspace} (can : Askable g q w) (m : OnlyMerged g h) (s : SameSizes w w1) where
  pub ask_again : Askable h q w1
  ask_again = record {
    first = still_used g h m q.a.0 can.first;
    second = still_used g h m q.b.0 can.second;
    least = can.least;
    most = can.most;
    words = omega (arith, can.words, m.number, s.words);
  }

  pub asked_same : asked_of h q w1 ≡ asked_of g q w
  asked_same =
      same_question g h m q.a.0 q.b.0 q.limit (nodes_of w1) can.first can.second
      ∙ ap (question (inputs_of g) (vertices g) q.a.0 q.b.0 q.limit) s.nodes

-- one engine was undecided, and another answered: what that says of a pile that is outside where both are
pub both_asked : {p1 p2 : Pile} {g h k : Graph} {early q : Query} {w w1 w2 : Workspace} {r : Answer} (p : Pile)
    → (Outside p1 (asked_of g early w) → Outside p2 (asked_of g q w) → Outside p (asked_of g q w))
    → Askable g q w → Asked p1 g early w Undecided h w1 → Asked p2 h q w1 r k w2 → Asked p g q w r k w2
both_asked {p2 = p2} {g = g} {h = h} {k = k} {q = q} p join can x y = record {
  equal = λ e code. sym (same_value g h x.merged q.a.0 can.first code) ∙ y.equal e code ∙ same_value g h x.merged q.b.0 can.second code;
  width = λ code e. subst (λ (n : ℕ). code < 2 ^ n) x.merged.inputs (y.width code e);
  apart = λ code e. sym (same_value g h x.merged q.a.0 can.first code) ∙ y.apart code e ∙ ap not (same_value g h x.merged q.b.0 can.second code);
  outside = λ e. join (x.outside refl) (subst (Outside p2) (asked_same can x.merged x.sizes) (y.outside e));
  merged = merged_again g h x.merged k y.merged;
  sizes = record { words = y.sizes.words ∙ x.sizes.words; nodes = y.sizes.nodes ∙ x.sizes.nodes };
}

pub chain_asked : {p1 p2 : Pile} {g h k : Graph} {q : Query} {w w1 w2 : Workspace} {r : Answer} → Askable g q w
    → Asked p1 g q w Undecided h w1 → Asked p2 h q w1 r k w2 → Asked (chain p1 p2) g q w r k w2
chain_asked {p1 = p1} {p2 = p2} {g = g} {q = q} {w = w} =
    both_asked (chain p1 p2) (outside_chain p1 p2 (asked_of g q w))

pub ladder_asked : {p : Pile} {g h k : Graph} {low q : Query} {w w1 w2 : Workspace} {r : Answer} → low ≡ record q { limit = rung q.limit } → Askable g q w
    → Asked p g low w Undecided h w1 → Asked p h q w1 r k w2 → Asked (ladder p) g q w r k w2
ladder_asked {p = p} {g = g} {q = q} {w = w} e =
    both_asked (ladder p) (λ o. outside_ladder p (asked_of g q w) (subst (λ (l : Query). Outside p (asked_of g l w)) e o))
