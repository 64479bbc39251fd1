-- Steps of a composition: the nodes that they add, and that there is no room for them.
use Rattle.std.proofs.Common.{◌≡◌, ℕ, ◌/◌, ◌<◌, ◌≤◌, Bool, true, false, cond, not, ◌&&◌, List, [], ◌∷◌, ◌++◌, length, sym, refl, ap, ◌∙◌, subst, ap₂, inl, inr, ⊎_elim, arith}
use mathlib.Core.Path.{fun_ext}
use Rattle.std.proofs.Math.Bool.{not-not}
use Rattle.std.proofs.lemmas.Bool.{cases_lt}
use Rattle.bdd.specs.declared.store.nodes.Node.{Node}
use Rattle.bdd.specs.declared.store.Table.{Table}
use Rattle.bdd.specs.Diagram.{eval, flip, Good, Grown}
use Rattle.bdd.specs.Parts.{PartOf, conj}
use Rattle.bdd.specs.Size.{Fn, parts, distinct, table, all_parts, In, Only}
use Rattle.bdd.specs.Laws.{Held, TooMany}
use Rattle.bdd.specs.Contents.{nodes_of}
use Rattle.bdd.specs.Composing.{Is, Among, NoRoom, Denotes, Extends, Still, choice}
use Rattle.bdd.proofs.Values.{eval_kept, eval_flip, flip_half, grown_self, grown_on}
use Rattle.bdd.proofs.Growth.{part_kept}
use Rattle.bdd.proofs.Pigeons.{Known, known_left, known_right}
use Rattle.bdd.proofs.Counting.{part_input, held_kept}
use Rattle.bdd.proofs.Marks.{known_of, distinct_known}

-- each of the first list is in the second
abbrev Covers : List Fn → List Fn → Type 0
Covers [] ws = Unit {0}
Covers (u ∷ us) ws = Known u ws × Covers us ws

covers_more : (us : List Fn) (w : Fn) (ws : List Fn) → Covers us ws → Covers us (w ∷ ws)
covers_more [] w ws c = tt
covers_more (u ∷ us) w ws c = (inr c.0, covers_more us w ws c.1)

covers_self : (us : List Fn) → Covers us us
covers_self [] = tt
covers_self (u ∷ us) = (inl (inl refl), covers_more us u us (covers_self us))

covers_left : (us ws xs : List Fn) → Covers us ws → Covers us (ws ++ xs)
covers_left [] ws xs c = tt
covers_left (u ∷ us) ws xs c = (known_left u ws xs c.0, covers_left us ws xs c.1)

covers_right : (us ws xs : List Fn) → Covers us xs → Covers us (ws ++ xs)
covers_right [] ws xs c = tt
covers_right (u ∷ us) ws xs c = (known_right u ws xs c.0, covers_right us ws xs c.1)

-- what is there already counts no more
distinct_covered : (us ws : List Fn) → Covers us ws → distinct (us ++ ws) ≡ distinct ws
distinct_covered [] ws c = refl
distinct_covered (u ∷ us) ws c = distinct_known u (us ++ ws) (known_of u (us ++ ws) (known_right u us ws c.0)) ∙ distinct_covered us ws c.1

among_covered : (vs : List ℕ) (φ : (ℕ → Bool) → Bool) (φs : List ((ℕ → Bool) → Bool)) → Among φ φs → Covers (parts (table vs φ (λ _. false))) (all_parts vs φs)
among_covered vs φ [] a = absurd a
among_covered vs φ (ψ ∷ φs) (inl is) =
    subst (λ χ. Covers (parts (table vs φ (λ _. false))) (parts (table vs χ (λ _. false)) ++ all_parts vs φs)) (fun_ext is)
    (covers_left (parts (table vs φ (λ _. false))) (parts (table vs φ (λ _. false))) (all_parts vs φs) (covers_self (parts (table vs φ (λ _. false)))))
among_covered vs φ (ψ ∷ φs) (inr a) = covers_right (parts (table vs φ (λ _. false))) (parts (table vs ψ (λ _. false))) (all_parts vs φs) (among_covered vs φ φs a)

among_held : (ns : List Node) (vs : List ℕ) (i : ℕ) (φ : (ℕ → Bool) → Bool) (φs : List ((ℕ → Bool) → Bool)) → Among φ φs → Only vs φ → PartOf ns φ i → Held ns vs i φs
among_held ns vs i φ [] a only p = absurd a
among_held ns vs i φ (ψ ∷ φs) (inl is) only p = inl (subst (λ χ. Only vs χ × PartOf ns χ i) (fun_ext is) (only, p))
among_held ns vs i φ (ψ ∷ φs) (inr a) only p = inr (among_held ns vs i φ φs a only p)

pub room_refused : (S : ((ℕ → Bool) → Bool) → Type 0) (ns : List Node) (limit : ℕ) (φ : (ℕ → Bool) → Bool) → S φ → TooMany ns limit φ → NoRoom S ns limit
room_refused S ns limit φ is many vs φs asc vars held steps =
    let a = steps φ is in
    subst (λ k. limit < k) (distinct_covered (parts (table vs φ (λ _. false))) (all_parts vs φs) (among_covered vs φ φs a.0)) (many vs φs asc vars a.1 held)

pub room_more : (S S' : ((ℕ → Bool) → Bool) → Type 0) (ns : List Node) (limit : ℕ) → ((φ : (ℕ → Bool) → Bool) → S φ → S' φ) → NoRoom S ns limit → NoRoom S' ns limit
room_more S S' ns limit up none vs φs asc vars held steps = none vs φs asc vars held (λ φ is. steps φ (up φ is))

-- no room later is no room before, since what was added is of the steps
pub room_before : (S : ((ℕ → Bool) → Bool) → Type 0) (t u : Table) (limit : ℕ) → Good (nodes_of t) → Extends S t u → NoRoom S (nodes_of u) limit → NoRoom S (nodes_of t) limit
room_before S t u limit good x none vs φs asc vars held steps =
    let ns : List Node = nodes_of t in
    let ms : List Node = nodes_of u in
    none vs φs asc
    (λ i h. ⊎_elim
    (λ lt. subst (λ n. In n.var vs) (sym (x.grown.kept i lt)) (vars i lt))
    (λ ge. let p = x.parts i ge h in part_input ms vs p.step i u.set.good h (steps p.step p.is_step).1 p.part)
    (cases_lt i (length ns)))
    (λ i h. ⊎_elim
    (λ lt. held_kept ns ms vs i φs good x.grown lt (held i lt))
    (λ ge. let p = x.parts i ge h in let a = steps p.step p.is_step in among_held ms vs i p.step φs a.0 a.1 p.part)
    (cases_lt i (length ns)))
    steps

pub extends_self : (S : ((ℕ → Bool) → Bool) → Type 0) (t : Table) → Extends S t t
extends_self S t = record { limit_is = refl; grown = grown_self (nodes_of t); parts = λ i a b. absurd (omega arith) }

pub extends_more : (S S' : ((ℕ → Bool) → Bool) → Type 0) (t u : Table) → ((φ : (ℕ → Bool) → Bool) → S φ → S' φ) → Extends S t u → Extends S' t u
extends_more S S' t u up x = record {
  limit_is = x.limit_is;
  grown = x.grown;
  parts = λ i a b. let p = x.parts i a b in record { step = p.step; is_step = up p.step p.is_step; part = p.part };
}

pub extends_on : (S : ((ℕ → Bool) → Bool) → Type 0) (t u w : Table) → Extends S t u → Extends S u w → Extends S t w
extends_on S t u w x y = record {
  limit_is = y.limit_is ∙ x.limit_is;
  grown = grown_on (nodes_of t) (nodes_of u) (nodes_of w) x.grown y.grown;
  parts = λ i a b. ⊎_elim
      (λ lt. let p = x.parts i a lt in record { step = p.step; is_step = p.is_step; part = part_kept (nodes_of u) (nodes_of w) p.step i u.set.good y.grown lt p.part })
      (λ ge. y.parts i ge b)
      (cases_lt i (length (nodes_of u)));
}

pub still_on : (t u w : Table) → Still t u → Still u w → Still t w
still_on t u w x y = record { marks_is = y.marks_is ∙ x.marks_is; images_is = y.images_is ∙ x.images_is }

pub denotes_kept : (ns ms : List Node) (e : ℕ) (φ : (ℕ → Bool) → Bool) → Good ns → Grown ns ms → Denotes ns e φ → Denotes ms e φ
denotes_kept ns ms e φ good grown d =
    let longer = grown.longer in
    let inside = d.inside in
    record { inside = omega arith; value_is = λ ρ. eval_kept ns ms ρ e good grown d.inside ∙ d.value_is ρ }

neither_is : (t h l : Bool) → (not (t && h) && not (not t && l)) ≡ not (cond t h l)
neither_is true true true = refl
neither_is true true false = refl
neither_is true false true = refl
neither_is true false false = refl
neither_is false h true = refl
neither_is false h false = refl

-- the second half of a choice
pub half_is : (ns n₁ : List Node) (test low nt : ℕ) → Good ns → Grown ns n₁ → test / 2 ≤ length ns → low / 2 ≤ length ns → nt ≡ flip test
    → Is (conj n₁ nt low) (λ ρ. not (eval ns ρ test) && eval ns ρ low)
half_is ns n₁ test low nt good grown in-t in-l is ρ =
    ap₂ ◌&&◌ (ap (eval n₁ ρ) is ∙ eval_flip n₁ ρ test ∙ ap not (eval_kept ns n₁ ρ test good grown in-t)) (eval_kept ns n₁ ρ low good grown in-l)

-- the choice, inverted
pub neither_half : (ns n₁ n₂ : List Node) (test high low one other n_one n_other : ℕ) → Good n₁ → Grown n₁ n₂ → n_one ≡ flip one → n_other ≡ flip other
    → Denotes n₁ one (λ ρ. eval ns ρ test && eval ns ρ high) → Denotes n₂ other (λ ρ. not (eval ns ρ test) && eval ns ρ low)
    → Is (conj n₂ n_one n_other) (λ ρ. not (choice (λ τ. eval ns τ test) (λ τ. eval ns τ high) (λ τ. eval ns τ low) ρ))
neither_half ns n₁ n₂ test high low one other n_one n_other good₁ grown is_one is-other d₁ d₂ ρ =
    ap₂ ◌&&◌
    (ap (eval n₂ ρ) is_one ∙ eval_flip n₂ ρ one ∙ ap not (eval_kept n₁ n₂ ρ one good₁ grown d₁.inside ∙ d₁.value_is ρ))
    (ap (eval n₂ ρ) is-other ∙ eval_flip n₂ ρ other ∙ ap not (d₂.value_is ρ))
    ∙ neither_is (eval ns ρ test) (eval ns ρ high) (eval ns ρ low)

pub turned_over : (ns : List Node) (e r : ℕ) (φ : (ℕ → Bool) → Bool) → r ≡ flip e → Denotes ns e (λ ρ. not (φ ρ)) → Denotes ns r φ
turned_over ns e r φ is d = record {
  inside = let i = d.inside in let h = flip_half e in subst (λ x. x / 2 ≤ length ns) (sym is) (omega arith);
  value_is = λ ρ. ap (eval ns ρ) is ∙ eval_flip ns ρ e ∙ ap not (d.value_is ρ) ∙ not-not (φ ρ);
}

pub denotes_is : (ns : List Node) (e : ℕ) (φ ψ : (ℕ → Bool) → Bool) → Is φ ψ → Denotes ns e φ → Denotes ns e ψ
denotes_is ns e φ ψ is d = record { inside = d.inside; value_is = λ ρ. d.value_is ρ ∙ is ρ }
