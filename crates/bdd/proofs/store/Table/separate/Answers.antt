-- One step down, on the high or on the low side, and the end at two different constants.
use Rattle.std.proofs.Common.{◌≡◌, ℕ, ◌+◌, ◌-◌, ◌/◌, min, ◌⊎◌, List, sym, ◌∙◌, subst, ap₂, inl, inr, arith}
use Rattle.std.proofs.lemmas.Nat.{one_shl}
use Rattle.bdd.specs.declared.store.nodes.Node.{Node}
use Rattle.bdd.specs.Diagram.{top}
use Rattle.bdd.specs.Contents.{nodes_of}
use Rattle.bdd.specs.Codes.{Walking}
use Rattle.bdd.proofs.Walks.{walk_high, walk_low, walk_end, first_few, first_next}
use Rattle.bdd.proofs.store.Table.separate.Goals as goal
use Rattle.bdd.proofs.store.Table.separate.Goals.{then-e-gt-TRUE, else-e-gt-TRUE+then-f-gt-TRUE}

pub loop-e-preserved-then-e_high-f_high : goal.loop-e-preserved-then-e_high-f_high
loop-e-preserved-then-e_high-f_high c =
    let ns : List Node = nodes_of c.args.self.now in
    let v : ℕ = c.min-v.result in
    let is : v ≡ min (top ns c.loop-e.e) (top ns c.loop-e.f) = c.min-v.ensures ∙ ap₂ min c.top.ensures c.top-in-loop-e.ensures in
    let one : (c.loop-e.e / 2 ≡ 0 → ⊥) ⊎ (c.loop-e.f / 2 ≡ 0 → ⊥) = elim c.if-e-gt-TRUE.branch [ then-e-gt-TRUE w ↦ inl (λ z. omega (arith, w.if-e-gt-TRUE.true)) | else-e-gt-TRUE+then-f-gt-TRUE w ↦ inr (λ z. omega (arith, w.if-f-gt-TRUE.true)) ] in
    let few = first_few c.args.self.now.set.good c.requires.first_over c.requires.second_over c.loop-e.invariant v is one in
    let shl = one_shl (v - 1) 64 (omega (arith, c.requires.few, few, c.loop-e.invariant.some, first_next c.args.self.now.set.good c.requires.first_over c.requires.second_over c.loop-e.invariant v is one)) in
    subst (λ (k : ℕ). Walking c.args.n ns c.args.first c.args.second c.cofactor-e_high.result c.cofactor-f_high.result (c.loop-e.code + k)) (sym shl)
    (walk_high c.args.self.now.set.good c.requires.first_over c.requires.second_over c.loop-e.invariant v is one c.cofactor-e_high.result c.cofactor-f_high.result c.cofactor-e_high.ensures c.cofactor-f_high.ensures c.if-e_high-f_high.true)

pub loop-e-preserved : goal.loop-e-preserved
loop-e-preserved c =
    let ns : List Node = nodes_of c.args.self.now in
    let v : ℕ = c.min-v.result in
    let is : v ≡ min (top ns c.loop-e.e) (top ns c.loop-e.f) = c.min-v.ensures ∙ ap₂ min c.top.ensures c.top-in-loop-e.ensures in
    let one : (c.loop-e.e / 2 ≡ 0 → ⊥) ⊎ (c.loop-e.f / 2 ≡ 0 → ⊥) = elim c.if-e-gt-TRUE.branch [ then-e-gt-TRUE w ↦ inl (λ z. omega (arith, w.if-e-gt-TRUE.true)) | else-e-gt-TRUE+then-f-gt-TRUE w ↦ inr (λ z. omega (arith, w.if-f-gt-TRUE.true)) ] in
    walk_low c.args.self.now.set.good c.requires.first_over c.requires.second_over c.loop-e.invariant v is one c.cofactor-e_high.result c.cofactor-f_high.result c.cofactor-e.result c.cofactor-f.result
    c.cofactor-e_high.ensures c.cofactor-f_high.ensures c.if-e_high-f_high.false c.cofactor-e.ensures c.cofactor-f.ensures

pub returns : goal.returns
returns c =
    let r = walk_end c.args.n (nodes_of c.args.self.now) c.args.first c.args.second c.loop-e.e c.loop-e.f c.loop-e.code c.loop-e.invariant (omega (arith, c.if-e-gt-TRUE.false)) (omega (arith, c.if-f-gt-TRUE.false)) in
    record { small = r.0; differ = r.1 }
