-- The halves of a choice and the choice, each with its nodes and its refusal.
use Rattle.std.proofs.Common.{◌≡◌, ℕ, Bool, not, ◌&&◌, List, refl, ◌∙◌, subst, inl, inr}
use Rattle.bdd.specs.declared.store.nodes.Node.{Node}
use Rattle.bdd.specs.declared.store.Table.{Table}
use Rattle.bdd.specs.Diagram.{eval, flip, Within}
use Rattle.bdd.specs.Parts.{conj}
use Rattle.bdd.specs.Laws.{TooMany}
use Rattle.bdd.specs.Contents.{nodes_of, limit_of}
use Rattle.bdd.specs.Composing.{Is, NoRoom, Denotes, Extends, choice, ChoiceStep}
use Rattle.bdd.proofs.Values.{none_is}
use Rattle.bdd.proofs.Composing.{room_refused, room_before, extends_more, extends_on, denotes_is, half_is, neither_half, turned_over}
use Rattle.bdd.proofs.store.Table.choose.Goals as goal
use Rattle.bdd.proofs.store.Table.choose.Goals.{After-meet-2, After-meet-3}

-- the steps of the choice, and its first half
abbrev Step : Table → ℕ → ℕ → ℕ → ((ℕ → Bool) → Bool) → Type 0
Step t test high low = ChoiceStep (λ ρ. eval (nodes_of t) ρ test) (λ ρ. eval (nodes_of t) ρ high) (λ ρ. eval (nodes_of t) ρ low)

abbrev chosen : Table → ℕ → ℕ → ℕ → (ℕ → Bool) → Bool
chosen t test high low = choice (λ ρ. eval (nodes_of t) ρ test) (λ ρ. eval (nodes_of t) ρ high) (λ ρ. eval (nodes_of t) ρ low)

first_half : (t u : Table) (test high low : ℕ) → Extends (λ φ. Is φ (conj (nodes_of t) test high)) t u → Extends (Step t test high low) t u
first_half t u test high low x = extends_more (λ φ. Is φ (conj (nodes_of t) test high)) (Step t test high low) t u (λ φ i. inl i) x

-- with the second half, made of the inverted test
both_halves : (t u w : Table) (test high low inverted : ℕ) → Within (nodes_of t) test → Within (nodes_of t) low → inverted ≡ flip test
    → Extends (λ φ. Is φ (conj (nodes_of t) test high)) t u → Extends (λ φ. Is φ (conj (nodes_of u) inverted low)) u w → Extends (Step t test high low) t w
both_halves t u w test high low inverted in_t in_l is x y =
    let half = half_is (nodes_of t) (nodes_of u) test low inverted t.set.good x.grown in_t in_l is in
    extends_on (Step t test high low) t u w (first_half t u test high low x) (extends_more (λ φ. Is φ (conj (nodes_of u) inverted low)) (Step t test high low) u w (λ φ i. inr (inl (λ ρ. i ρ ∙ half ρ))) y)

halves : (c : After-meet-2) → Extends (Step c.args.self.now c.args.test c.args.high c.args.low) c.args.self.now c.meet-2.new.self
halves c = both_halves c.args.self.now c.meet.new.self c.meet-2.new.self c.args.test c.args.high c.args.low c.inverse.result c.requires.test_within c.requires.low_within c.inverse.ensures.value c.meet.ensures.extends c.meet-2.ensures.extends

half_of : (c : After-meet-2) → Is (conj (nodes_of c.meet.new.self) c.inverse.result c.args.low) (λ ρ. not (eval (nodes_of c.args.self.now) ρ c.args.test) && eval (nodes_of c.args.self.now) ρ c.args.low)
half_of c = half_is (nodes_of c.args.self.now) (nodes_of c.meet.new.self) c.args.test c.args.low c.inverse.result c.args.self.now.set.good c.meet.ensures.extends.grown c.requires.test_within c.requires.low_within c.inverse.ensures.value

-- the choice, inverted
neither_of : (c : After-meet-3) → Is (conj (nodes_of c.meet-2.new.self) c.inverse-2.result c.inverse-3.result) (λ ρ. not (chosen c.args.self.now c.args.test c.args.high c.args.low ρ))
neither_of c =
    let t : Table = c.args.self.now in
    let u : Table = c.meet.new.self in
    let n₂ : List Node = nodes_of c.meet-2.new.self in
    let other : ℕ = c.in_ok-other.other in
    let half = half_is (nodes_of t) (nodes_of u) c.args.test c.args.low c.inverse.result t.set.good c.meet.ensures.extends.grown c.requires.test_within c.requires.low_within c.inverse.ensures.value in
    neither_half (nodes_of t) (nodes_of u) n₂ c.args.test c.args.high c.args.low c.in_ok-one.one other c.inverse-2.result c.inverse-3.result
    u.set.good c.meet-2.ensures.extends.grown c.inverse-2.ensures.value c.inverse-3.ensures.value c.in_ok-one.ensures.cases
    (denotes_is n₂ other (conj (nodes_of u) c.inverse.result c.args.low) (λ ρ. not (eval (nodes_of t) ρ c.args.test) && eval (nodes_of t) ρ c.args.low) half c.in_ok-other.ensures.cases)

all_steps : (c : After-meet-3) → Extends (Step c.args.self.now c.args.test c.args.high c.args.low) c.args.self.now c.meet-3.new.self
all_steps c =
    let t : Table = c.args.self.now in
    let u : Table = c.meet-2.new.self in
    let S : ((ℕ → Bool) → Bool) → Type 0 = Step t c.args.test c.args.high c.args.low in
    extends_on S t u c.meet-3.new.self
    (both_halves t c.meet.new.self u c.args.test c.args.high c.args.low c.inverse.result c.requires.test_within c.requires.low_within c.inverse.ensures.value c.meet.ensures.extends c.meet-2.ensures.extends)
    (extends_more (λ φ. Is φ (conj (nodes_of u) c.inverse-2.result c.inverse-3.result)) S u c.meet-3.new.self (λ φ i. inr (inr (λ ρ. i ρ ∙ neither_of c ρ))) c.meet-3.ensures.extends)

pub returns-in_err-one-clause-extends : goal.returns-in_err-one-clause-extends
returns-in_err-one-clause-extends c = first_half c.args.self.now c.meet.new.self c.args.test c.args.high c.args.low c.meet.ensures.extends

pub returns-in_err-one-clause-cases : goal.returns-in_err-one-clause-cases
returns-in_err-one-clause-cases c =
    let t : Table = c.args.self.now in
    let S : ((ℕ → Bool) → Bool) → Type 0 = Step t c.args.test c.args.high c.args.low in
    none_is c.from_residual.result (NoRoom S (nodes_of t) (limit_of t)) (λ e. Denotes (nodes_of c.meet.new.self) e (chosen t c.args.test c.args.high c.args.low)) c.from_residual.ensures
    (room_refused S (nodes_of t) (limit_of t) (conj (nodes_of t) c.args.test c.args.high) (inl (λ ρ. refl)) c.in_err-one.ensures.cases)

pub returns-in_err-other-clause-extends : goal.returns-in_err-other-clause-extends
returns-in_err-other-clause-extends c = halves (goal.at.returns-in_err-other-clause-extends c).After-meet-2

pub returns-in_err-other-clause-cases : goal.returns-in_err-other-clause-cases
returns-in_err-other-clause-cases c =
    let b = (goal.at.returns-in_err-other-clause-cases c).After-meet-2 in
    let t : Table = c.args.self.now in
    let u : Table = c.meet.new.self in
    let S : ((ℕ → Bool) → Bool) → Type 0 = Step t c.args.test c.args.high c.args.low in
    let x : Extends S t u = first_half t u c.args.test c.args.high c.args.low c.meet.ensures.extends in
    let φ : (ℕ → Bool) → Bool = conj (nodes_of u) c.inverse.result c.args.low in
    none_is c.from_residual-in_err-other.result (NoRoom S (nodes_of t) (limit_of t)) (λ e. Denotes (nodes_of c.meet-2.new.self) e (chosen t c.args.test c.args.high c.args.low)) c.from_residual-in_err-other.ensures
    (room_before S t u (limit_of t) t.set.good x (room_refused S (nodes_of u) (limit_of t) φ (inr (inl (half_of b))) (subst (λ k. TooMany (nodes_of u) k φ) x.limit_is c.in_err-other.ensures.cases)))

pub returns-in_err-neither-clause-extends : goal.returns-in_err-neither-clause-extends
returns-in_err-neither-clause-extends c = all_steps (goal.at.returns-in_err-neither-clause-extends c).After-meet-3

pub returns-in_err-neither-clause-cases : goal.returns-in_err-neither-clause-cases
returns-in_err-neither-clause-cases c =
    let b = (goal.at.returns-in_err-neither-clause-cases c).After-meet-3 in
    let t : Table = c.args.self.now in
    let u : Table = c.meet-2.new.self in
    let S : ((ℕ → Bool) → Bool) → Type 0 = Step t c.args.test c.args.high c.args.low in
    let x : Extends S t u = halves (goal.at.returns-in_err-neither-clause-cases c).After-meet-2 in
    let φ : (ℕ → Bool) → Bool = conj (nodes_of u) c.inverse-2.result c.inverse-3.result in
    none_is c.from_residual-in_err-neither.result (NoRoom S (nodes_of t) (limit_of t)) (λ e. Denotes (nodes_of c.meet-3.new.self) e (chosen t c.args.test c.args.high c.args.low)) c.from_residual-in_err-neither.ensures
    (room_before S t u (limit_of t) t.set.good x (room_refused S (nodes_of u) (limit_of t) φ (inr (inr (neither_of b))) (subst (λ k. TooMany (nodes_of u) k φ) x.limit_is c.in_err-neither.ensures.cases)))

pub returns-clause-extends : goal.returns-clause-extends
returns-clause-extends c = all_steps (goal.at.returns-clause-extends c).After-meet-3

pub returns-clause-cases : goal.returns-clause-cases
returns-clause-cases c =
    let t : Table = c.args.self.now in
    let w : List Node = nodes_of c.meet-3.new.self in
    let neither : ℕ = c.in_ok-neither.neither in
    let φ : (ℕ → Bool) → Bool = chosen t c.args.test c.args.high c.args.low in
    turned_over w neither c.inverse-4.result φ c.inverse-4.ensures.value
    (denotes_is w neither (conj (nodes_of c.meet-2.new.self) c.inverse-2.result c.inverse-3.result) (λ ρ. not (φ ρ)) (neither_of (goal.at.returns-clause-cases c).After-meet-3) c.in_ok-neither.ensures.cases)
