-- What conjoin promises, in terms of the function.
use Rattle.std.proofs.Common.{ℕ, ◌≤◌, Bool, List, length, refl, arith}
use Rattle.bdd.specs.declared.store.nodes.Node.{Node}
use Rattle.bdd.specs.Parts.{conj}
use Rattle.bdd.specs.Steps.{Both, Lacking}
use Rattle.bdd.specs.Laws.{TooMany}
use Rattle.bdd.specs.Contents.{nodes_of, limit_of}
use Rattle.bdd.specs.Composing.{Denotes}
use Rattle.bdd.proofs.Values.{cases_map}
use Rattle.bdd.proofs.Counting.{refusal}
use Rattle.bdd.proofs.store.Table.meet.Goals as goal

pub returns-clause-extends : goal.returns-clause-extends
returns-clause-extends c =
    let t = c.args.self.now in
    let k = c.conjoin.ensures.kept in
    let p = c.conjoin.ensures.parts in
    record { limit_is = k.limit_is; grown = k.grown; parts = λ i a b. record { step = conj (nodes_of t) c.args.f c.args.g; is_step = λ ρ. refl; part = p.part i a b } }

pub returns-clause-cases : goal.returns-clause-cases
returns-clause-cases c =
    let t = c.args.self.now in
    let u = c.conjoin.new.self in
    let ns : List Node = nodes_of t in
    let ms : List Node = nodes_of u in
    let φ : (ℕ → Bool) → Bool = conj ns c.args.f c.args.g in
    let k = c.conjoin.ensures.kept in
    cases_map c.conjoin.result ((limit_of u ≤ length ms) × Lacking ns ms c.args.f c.args.g) (TooMany ns (limit_of t) φ) (Both ns ms c.args.f c.args.g) (λ e. Denotes ms e φ)
    (λ out. let lack = out.1 in refusal ns ms φ (limit_of t) lack.extra t.set.good k.grown (let full = out.0 in omega (arith, k.limit_is)) lack.good lack.parts.part)
    (λ e both. record { inside = both.inside; value_is = both.value_is })
    c.conjoin.ensures.cases
