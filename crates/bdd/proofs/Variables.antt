-- The diagram of a variable.
use Rattle.std.proofs.Common.{◌≡◌, ℕ, ◌+◌, ◌/◌, ◌<◌, ◌≤◌, Bool, false, cond, List, length, sym, ap, ◌∙◌, ⊎_elim, arith}
use Rattle.std.proofs.lemmas.Bool.{cases_Bool, le-ltb}
use Rattle.bdd.specs.declared.store.nodes.Node.{Node}
use Rattle.bdd.specs.Diagram.{node_at, eval, turned, inverted}
use Rattle.bdd.specs.Parts.{fixed, PartOf}
use Rattle.bdd.specs.Steps.{Made}
use Rattle.bdd.proofs.Values.{eval_true, eval_false}
use Rattle.bdd.proofs.Growth.{straight_of}

pub variable_value : (ns ms : List Node) (v r : ℕ) → Made ns ms v 1 0 r → (ρ : ℕ → Bool) → eval ms ρ r ≡ ρ v
variable_value ns ms v r made ρ = ⊎_elim
    (λ t. made.high_is ρ t ∙ eval_true ns ρ ∙ sym t)
    (λ f. made.low_is ρ f ∙ eval_false ns ρ ∙ sym f)
    (cases_Bool (ρ v))

pub variable_parts : (ns ms : List Node) (v r : ℕ) → Made ns ms v 1 0 r → (i : ℕ) → length ns ≤ i → i < length ms → PartOf ms (λ ρ. ρ v) i
variable_parts ns ms v r made i old inside = ⊎_elim
    (λ same. let long = ap length same in absurd (omega arith))
    (λ q.
    let is : i ≡ length ns = omega (arith, q.0) in
    let half : r / 2 ≡ i + 1 = omega (arith, q.1) in
    let at : (node_at ms i).var ≡ v = ap (λ k. (node_at ms k).var) is ∙ q.2 in
    record {
      at = λ _. false;
      turn = inverted r;
      value_is = λ ρ. straight_of ms ρ r i half ∙ ap (turned (inverted r)) (variable_value ns ms v r made ρ
          ∙ sym (ap (λ w. fixed (λ _. false) w ρ v) at ∙ ap (λ b. cond b false (ρ v)) (le-ltb v v (omega arith))));
    })
    made.news
