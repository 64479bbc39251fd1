-- The test is g, or the diagram of the variable.
use Rattle.std.proofs.Common.{◌≡◌, ℕ, ◌<◌, ◌≤◌, Option, Some, None, MatchOption, Bool, cond, List, [], ◌∷◌, ◌++◌, length, sym, refl, ap, ◌∙◌, subst, arith}
use mathlib.Core.Path.{fun_ext}
use Rattle.bdd.specs.declared.store.nodes.Node.{Node}
use Rattle.std.proofs.lemmas.Bool.{eq-eqb, ne_eqb}
use Rattle.bdd.specs.Diagram.{eval}
use Rattle.bdd.specs.Parts.{PartOf}
use Rattle.bdd.specs.declared.store.Table.{Table}
use Rattle.bdd.specs.Steps.{Made, Short}
use Rattle.bdd.specs.Laws.{TooMany}
use Rattle.bdd.specs.Contents.{Full, nodes_of, limit_of}
use Rattle.bdd.specs.Composing.{Is, Denotes, tested}
use Rattle.bdd.proofs.Values.{cases_map, grown_self}
use Rattle.bdd.proofs.Variables.{variable_value, variable_parts}
use Rattle.bdd.proofs.Counting.{refusal}
use Rattle.bdd.proofs.store.Table.test.Goals as goal

-- what follows in both cases
either : {A : Type 0} (o : Option A) (P : Type 0) (Q : A → Type 0) (R : Type 0) → (P → R) → ((x : A) → Q x → R) → MatchOption o P Q → R
either None P Q R f g m = f m
either (Some x) P Q R f g m = g x m

own_is : (ns : List Node) (v g w : ℕ) → (w ≡ v → ⊥) → Is (λ ρ. ρ w) (tested ns v g w)
own_is ns v g w ne ρ = sym (ap (λ b. cond b (eval ns ρ g) (ρ w)) (ne_eqb w v ne))

part_own : (ns ms : List Node) (v g w i : ℕ) → (w ≡ v → ⊥) → PartOf ms (λ ρ. ρ w) i → PartOf ms (tested ns v g w) i
part_own ns ms v g w i ne p = subst (λ χ. PartOf ms χ i) (fun_ext (own_is ns v g w ne)) p

pub returns-then-w-change-clause-cases : goal.returns-then-w-change-clause-cases
returns-then-w-change-clause-cases c =
    let ns : List Node = nodes_of c.args.self.now in
    record { inside = c.requires.within; value_is = λ ρ. sym (ap (λ b. cond b (eval ns ρ c.args.change.by) (ρ c.args.w)) (eq-eqb c.args.w c.args.change.var c.if-w-change.true)) }

pub returns-clause-extends : goal.returns-clause-extends
returns-clause-extends c =
    let t : Table = c.args.self.now in
    let u : Table = c.mk.new.self in
    let ns : List Node = nodes_of t in
    let ms : List Node = nodes_of u in
    let w : ℕ = c.args.w in
    let kept = c.mk.ensures.kept in
    let φ : (ℕ → Bool) → Bool = tested ns c.args.change.var c.args.change.by w in
    let new_part : (i : ℕ) → length ns ≤ i → i < length ms → PartOf ms (λ ρ. ρ w) i = λ i a b.
    either c.mk.result (Full t u × Short ns w 1 0) (Made ns ms w 1 0) (PartOf ms (λ ρ. ρ w) i)
    (λ out. let same : length ms ≡ length ns = ap (λ x. length (nodes_of x)) out.0.1 in absurd (omega arith))
    (λ e made. variable_parts ns ms w e made i a b)
    (subst (λ (m : Node). MatchOption c.mk.result (Full t u × Short ns m.var m.high m.low) (Made ns ms m.var m.high m.low)) c.of_variable.ensures c.mk.ensures.cases) in
    record {
      limit_is = kept.limit_is;
      grown = kept.grown;
      parts = λ i a b. record { step = φ; is_step = λ ρ. refl; part = part_own ns ms c.args.change.var c.args.change.by w i c.if-w-change.false (new_part i a b) };
    }

pub returns-clause-cases : goal.returns-clause-cases
returns-clause-cases c =
    let t : Table = c.args.self.now in
    let u : Table = c.mk.new.self in
    let ns : List Node = nodes_of t in
    let ms : List Node = nodes_of u in
    let w : ℕ = c.args.w in
    let φ : (ℕ → Bool) → Bool = tested ns c.args.change.var c.args.change.by w in
    cases_map c.mk.result (Full t u × Short ns w 1 0) (TooMany ns (limit_of t) φ) (Made ns ms w 1 0) (λ e. Denotes ms e φ)
    (λ out. let full = out.0 in let lack = out.1 in refusal ns ns φ (limit_of t) lack.extra t.set.good (grown_self ns) (omega (arith, full.0)) lack.good
    (λ i a b. part_own ns (ns ++ lack.extra ∷ []) c.args.change.var c.args.change.by w i c.if-w-change.false (variable_parts ns (ns ++ lack.extra ∷ []) w lack.result lack.made i a b)))
    (λ e made. record { inside = made.inside; value_is = λ ρ. variable_value ns ms w e made ρ ∙ own_is ns c.args.change.var c.args.change.by w c.if-w-change.false ρ })
    (subst (λ (m : Node). MatchOption c.mk.result (Full t u × Short ns m.var m.high m.low) (Made ns ms m.var m.high m.low)) c.of_variable.ensures c.mk.ensures.cases)
