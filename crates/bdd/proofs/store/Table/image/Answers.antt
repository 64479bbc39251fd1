-- The image of a node is the choice between those of its children.
use Rattle.std.proofs.Common.{◌≡◌, ℕ, ◌+◌, ◌*◌, ◌<◌, Bool, cond, List, vec_items, sym, ap, ◌∙◌, subst, inl, inr}
use Rattle.bdd.specs.declared.store.nodes.Node.{Node}
use Rattle.bdd.specs.declared.store.Table.{Table}
use Rattle.std.proofs.lemmas.List.{get_or_read}
use Rattle.bdd.specs.Diagram.{node, node_at, eval}
use Rattle.bdd.specs.Contents.{nodes_of, limit_of}
use Rattle.bdd.specs.Composing.{Is, NoRoom, Denotes, Extends, choice, ChoiceStep, tested, composed, NodeStep, carried}
use Rattle.bdd.proofs.Values.{none_is, cases_map}
use Rattle.bdd.proofs.Canon.{upd}
use Rattle.bdd.proofs.Composing.{room_refused, room_before, room_more, extends_more, extends_on, still_on, denotes_is, denotes_kept}
use Rattle.bdd.proofs.Images.{past_denotes, node_choice, choice_like, choice_step}
use Rattle.bdd.proofs.store.Table.image.Goals as goal

pub returns-then-n-change-clause-cases : goal.returns-then-n-change-clause-cases
returns-then-n-change-clause-cases c =
    let ns : List Node = nodes_of c.args.self.now in
    let i : ℕ = c.args.i in
    let v : ℕ = c.args.change.var in
    let g : ℕ = c.args.change.by in
    let read : c.index-n.result.now ≡ node_at ns i = get_or_read ns i c.index-n.result.now c.requires.inside c.index-n.ensures (node 0 0 0) in
    subst (λ e. Denotes ns e (composed ns v g (2 * (i + 1)))) (sym c.edge_to.ensures)
    (past_denotes ns v g i c.args.self.now.set.good c.requires.inside (subst (λ x. v < x.var) read c.if-n-change.true))

pub returns-in_err-test : goal.returns-in_err-test
returns-in_err-test c =
    let t : Table = c.args.self.now in
    let ns : List Node = nodes_of t in
    let i : ℕ = c.args.i in
    let v : ℕ = c.args.change.var in
    let g : ℕ = c.args.change.by in
    let n : Node = node_at ns i in
    let n' : Node = c.index-n.result.now in
    let good = c.args.self.now.set.good in
    let S : ((ℕ → Bool) → Bool) → Type 0 = NodeStep ns v g i in
    let read : n' ≡ n = get_or_read ns i n' c.requires.inside c.index-n.ensures (node 0 0 0) in
    let t₁ : Table = c.test.new.self in
    let n₁ : List Node = nodes_of t₁ in
    let φ₁ : (ℕ → Bool) → Bool = tested ns v g n'.var in
    let own : Is φ₁ (tested ns v g n.var) = λ ρ. ap (λ x. tested ns v g x.var ρ) read in
    let x₁ : Extends S t t₁ = extends_more (λ φ. Is φ φ₁) S t t₁ (λ φ is. inl (λ ρ. is ρ ∙ own ρ)) c.test.ensures.extends in
    record {
      still = c.test.ensures.still;
      extends = x₁;
      cases = none_is c.from_residual.result (NoRoom S ns (limit_of t)) (λ e. Denotes n₁ e (composed ns v g (2 * (i + 1)))) c.from_residual.ensures (room_refused S ns (limit_of t) φ₁ (inl own) c.in_err-test.ensures.cases);
    }

pub returns : goal.returns
returns c =
    let t : Table = c.args.self.now in
    let ns : List Node = nodes_of t in
    let i : ℕ = c.args.i in
    let v : ℕ = c.args.change.var in
    let g : ℕ = c.args.change.by in
    let n : Node = node_at ns i in
    let n' : Node = c.index-n.result.now in
    let good = c.args.self.now.set.good in
    let S : ((ℕ → Bool) → Bool) → Type 0 = NodeStep ns v g i in
    let read : n' ≡ n = get_or_read ns i n' c.requires.inside c.index-n.ensures (node 0 0 0) in
    let t₁ : Table = c.test.new.self in
    let n₁ : List Node = nodes_of t₁ in
    let φ₁ : (ℕ → Bool) → Bool = tested ns v g n'.var in
    let own : Is φ₁ (tested ns v g n.var) = λ ρ. ap (λ x. tested ns v g x.var ρ) read in
    let x₁ : Extends S t t₁ = extends_more (λ φ. Is φ φ₁) S t t₁ (λ φ is. inl (λ ρ. is ρ ∙ own ρ)) c.test.ensures.extends in
    let t₂ : Table = c.choose.new.self in
    let n₂ : List Node = nodes_of t₂ in
    let images : List ℕ = vec_items t.images in
    let high_is : c.carry-high.result ≡ carried images n.high = c.carry-high.ensures ∙ ap (λ xs. carried xs n'.high) c.deref.ensures.value ∙ ap (λ x. carried images x.high) read in
    let low_is : c.carry-low.result ≡ carried images n.low = c.carry-low.ensures ∙ ap (λ xs. carried xs n'.low) c.deref-2.ensures.value ∙ ap (λ x. carried images x.low) read in
    let T : (ℕ → Bool) → Bool = λ ρ. eval n₁ ρ c.in_ok-test.test in
    let H : (ℕ → Bool) → Bool = λ ρ. eval n₁ ρ c.carry-high.result in
    let L : (ℕ → Bool) → Bool = λ ρ. eval n₁ ρ c.carry-low.result in
    let T' : (ℕ → Bool) → Bool = tested ns v g n.var in
    let H' : (ℕ → Bool) → Bool = composed ns v g n.high in
    let L' : (ℕ → Bool) → Bool = composed ns v g n.low in
    let is_t : Is T T' = λ ρ. c.in_ok-test.ensures.cases.value_is ρ ∙ own ρ in
    let is_h : Is H H' = (denotes_kept ns n₁ c.carry-high.result H' good x₁.grown (subst (λ x. Denotes ns x H') (sym high_is) c.requires.high)).value_is in
    let is_l : Is L L' = (denotes_kept ns n₁ c.carry-low.result L' good x₁.grown (subst (λ x. Denotes ns x L') (sym low_is) c.requires.low)).value_is in
    let up : (φ : (ℕ → Bool) → Bool) → ChoiceStep T H L φ → S φ = λ φ s. inr (choice_step T H L T' H' L' is_t is_h is_l φ s) in
    let x₂ : Extends S t₁ t₂ = extends_more (ChoiceStep T H L) S t₁ t₂ up c.choose.ensures.extends in
    record {
      still = still_on t t₁ t₂ c.test.ensures.still c.choose.ensures.still;
      extends = extends_on S t t₁ t₂ x₁ x₂;
      cases = cases_map c.choose.result (NoRoom (ChoiceStep T H L) n₁ (limit_of t₁)) (NoRoom S ns (limit_of t)) (λ e. Denotes n₂ e (choice T H L)) (λ e. Denotes n₂ e (composed ns v g (2 * (i + 1))))
          (λ none. room_before S t t₁ (limit_of t) good x₁ (room_more (ChoiceStep T H L) S n₁ (limit_of t) up (subst (λ k. NoRoom (ChoiceStep T H L) n₁ k) x₁.limit_is none)))
          (λ e d. denotes_is n₂ e (λ ρ. cond (T ρ) (H ρ) (L ρ)) (composed ns v g (2 * (i + 1)))
          (λ ρ. choice_like T H L T' H' L' is_t is_h is_l ρ ∙ node_choice ns (upd ρ v (eval ns ρ g)) i good c.requires.inside) d)
          c.choose.ensures.cases;
    }
