-- the invariant of a graph, before and after a merge
use Rattle.std.proofs.Common.{◌≡◌, ℕ, ◌*◌, ◌/◌, ◌%◌, ◌<◌, not, ◌⊎◌, List, length, sym, refl, ap, ◌∙◌, subst, inl, inr, arith}
use Rattle.std.proofs.lemmas.Bool.{cases_eq}
use Rattle.aig.specs.Table.{left_of, right_of, link_of, Stands}
use Rattle.aig.specs.Nets.{flip}
use Rattle.aig.specs.Algebras.{Respects, booleans, bits}
use Rattle.aig.specs.Cascade.{Shape, Midway, Ready, Merged, Stale, Clean}
use Rattle.aig.specs.Values.{vertex_value, value}
use Rattle.aig.specs.Invariant.{StandingGate, ReadsEarlier, Whole}
use Rattle.aig.specs.Merges.{Mergeable, AfterMerge}
use Rattle.aig.specs.declared.vertex.Vertex.{Vertex}
use Rattle.aig.proofs.Merging.{link_low}
use Rattle.aig.proofs.Valued.{value_zero, value_gate, value_only, value_across}

pub shape_of : {n : ℕ} {t : List Vertex} → Whole n t → Shape n t
shape_of {n} {t} w = record {
  small = w.small;
  linked = λ v h. elim (cases_eq (link_of t v) (2 * v)) [ inl e ↦ inl e | inr e ↦ inr (w.linked v (record { inside = h; lost = e })) ];
  earlier = λ v gt h. w.earlier v (record { after = gt; inside = h });
}

pub midway_of : {n : ℕ} {t : List Vertex} → Whole n t → Midway n t
midway_of {n} {t} w = record {
  shape = shape_of w;
  unique = λ x y cx cy p q. w.unique x y (record {
    one = record { after = cx.gate; inside = cx.inside; stands = cx.stands };
    other = record { after = cy.gate; inside = cy.inside; stands = cy.stands };
    lefts = p;
    rights = q;
  });
  proper = λ x c. w.proper x (record { after = c.gate; inside = c.inside; stands = c.stands });
}

pub none_stale : {n : ℕ} {t : List Vertex} → Whole n t → (x o : ℕ) → Stale n t x o → ⊥
none_stale {n} {t} w x o d =
    let s = w.standing x (record { after = d.gate; inside = d.inside; stands = d.stands }) in
    elim d.reads [ inl e ↦ d.lost (subst (λ (k : ℕ). Stands t k) e s.0) | inr e ↦ d.lost (subst (λ (k : ℕ). Stands t k) e s.1) ]

pub respects_of : {n : ℕ} {t : List Vertex} → Whole n t → (code : ℕ) → Respects booleans n (vertex_value n t code) t
respects_of {n} {t} w code = record {
  base = value_zero n t code;
  gates = λ v gt h. value_gate n t w.earlier code v gt h;
  links = λ v h. w.equal code v h;
}

pub ready_of : {n : ℕ} {t : List Vertex} {keep g : ℕ} → Whole n t → Mergeable n t keep g → Ready n t keep g
ready_of w m = record {
  shape = shape_of w;
  gate = m.gate;
  inside = m.inside;
  stands = m.stands;
  before = m.before;
  onto = m.onto;
  unique = λ x y _ _ cx cy p q. (midway_of w).unique x y cx cy p q;
  proper = (midway_of w).proper;
}

module _ {n : ℕ} {t : List Vertex} {keep g : ℕ} {u : List Vertex} (w : Whole n t) (m : Mergeable n t keep g) (r : Merged n t keep g u) where
  shape : Shape n u
  shape = r.step.midway.shape

  early : ReadsEarlier n u
  early v e = shape.earlier v e.after e.inside

  respects : (code : ℕ) → Respects booleans n (vertex_value n t code) u
  unfolding value
  respects code = r.forced bits booleans (vertex_value n t code) (respects_of w code) (m.equal code)

  long : length u ≡ length t
  long = r.step.long

  pub merged_same : (code v : ℕ) → v < length t → vertex_value n u code v ≡ vertex_value n t code v
  merged_same code v h = value_only n u early code (vertex_value n t code)
      (λ x l. value_across n t u w.earlier early code (omega (arith, long)) (λ y gt k. (respects code).gates y gt (omega (arith, long))) x (omega (arith, long)) l)
      v (omega (arith, long))

  reads : (v : ℕ) → StandingGate n u v → (o : ℕ) → ((left_of u v / 2 ≡ o) ⊎ (right_of u v / 2 ≡ o)) → Stands u o
  reads v s o e = elim (cases_eq (link_of u o) (2 * o)) [
    | inl p ↦ p
    | inr p ↦ absurd (none_stale w v o (r.stale v o (record { gate = s.after; inside = s.inside; stands = s.stands; lost = p; reads = e })))
  ]

  clean : (v : ℕ) → StandingGate n u v → Clean n u v
  clean v s = record {
    gate = s.after;
    inside = s.inside;
    stands = s.stands;
    first = reads v s _ (inl refl);
    second = reads v s _ (inr refl);
  }

  pub merged_whole : Whole n u
  merged_whole = record {
    few = λ h. (let f = w.few (omega (arith, long)) in omega (arith, long));
    small = shape.small;
    linked = λ v a. elim (shape.linked v a.inside) [ inl e ↦ absurd (a.lost e) | inr p ↦ p ];
    earlier = early;
    standing = λ v s. ((clean v s).first, (clean v s).second);
    proper = λ v s. r.step.midway.proper v (clean v s);
    unique = λ x y e. r.step.midway.unique x y (clean x e.one) (clean y e.other) e.lefts e.rights;
    equal = λ code v h. (let low = link_low shape v h in
        merged_same code v (omega (arith, long)) ∙ (respects code).links v h
        ∙ ap (flip not (link_of u v % 2)) (sym (merged_same code (link_of u v / 2) (omega (arith, long)))));
  }

  pub merged_after : AfterMerge n t keep g u
  merged_after = record { long = long; linked = r.linked; falls = r.step.falls; before = r.step.before; composed = r.step.composed; same = merged_same; forced = r.forced }
