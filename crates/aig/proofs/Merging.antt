-- what `merge` needs: the relinked table, the sweep over the readers, and its end
use Rattle.std.proofs.Common.{◌≡◌, ℕ, ◌+◌, ◌*◌, ◌/◌, ◌%◌, ◌<◌, ◌≤◌, ◌⊎◌, List, length, get_or, sym, refl, ap, ◌∙◌, subst, inl, inr, arith}
use Rattle.std.proofs.lemmas.Bool.{cases_eq}
use Rattle.aig.specs.Table.{vertex, none, left_of, right_of, link_of, survivor_of, Stands, standing}
use Rattle.aig.specs.Nets.{carried, flip}
use Rattle.aig.specs.Cascade.{Composed, Shape, Stale, Clean, Relinked, Midway, Ready, Merged, Rehashed, Dirty}
use Rattle.aig.specs.Algebras.{Algebra, Respects, net_at}
use Rattle.aig.specs.declared.vertex.Vertex.{Vertex}
use Rattle.aig.proofs.Nets.{half_carried, value_carried}
use Rattle.aig.proofs.Counts.{standing_less}
use Rattle.aig.proofs.Sweeps.{Sweeping}

pub vertex_ext : (x y : Vertex) → x.left.0 ≡ y.left.0 → x.right.0 ≡ y.right.0 → x.link.0 ≡ y.link.0 → x ≡ y
vertex_ext x y p q r = λ i. vertex (p i) (q i) (r i)

pub link_low : {n : ℕ} {t : List Vertex} → Shape n t → (v : ℕ) → v < length t → link_of t v / 2 ≤ v
link_low s v h = elim (s.linked v h) [ inl e ↦ omega arith | inr p ↦ omega (arith, p.0) ]

pub link_stands : {n : ℕ} {t : List Vertex} → Shape n t → (v : ℕ) → v < length t → Stands t (link_of t v / 2)
link_stands {n} {t} s v h = elim (s.linked v h) [
  | inl e ↦ (let k : link_of t v / 2 ≡ v = omega arith in subst (λ (k : ℕ). Stands t k) (sym k) e)
  | inr p ↦ p.1
]

pub stale_before : {n : ℕ} {t : List Vertex} → Shape n t → (x o : ℕ) → Stale n t x o → o < x
stale_before s x o d =
    let e = s.earlier x d.gate d.inside in
    elim d.reads [ inl p ↦ omega (arith, e.0) | inr p ↦ omega (arith, e.1) ]

-- ---- survivors of survivors

pub carried_own : (l k : ℕ) → k ≡ 2 * (l / 2) → l ≡ carried k l
carried_own l k e = omega arith

pub carried_carried : (q m l : ℕ) → carried q (carried m l) ≡ carried (carried q m) l
carried_carried q m l = omega arith

pub composed_none : {n : ℕ} {t : List Vertex} → Shape n t → Composed t t
composed_none {n} {t} s v h = carried_own (link_of t v) (link_of t (link_of t v / 2)) (link_stands s v h)

pub composed_more : (t u s : List Vertex) → length u ≡ length t → ((v : ℕ) → v < length t → link_of t v / 2 ≤ v) → Composed t u → Composed u s → Composed t s
composed_more t u s long low c d v h =
    let l : ℕ = link_of t v in
    let m : ℕ = link_of u (l / 2) in
    d v (omega (arith, long)) ∙ ap (survivor_of s) (c v h)
    ∙ ap (λ (k : ℕ). carried (link_of s k) (carried m l)) (half_carried m l)
    ∙ carried_carried (link_of s (m / 2)) m l
    ∙ ap (λ (k : ℕ). carried k l) (sym (d (l / 2) (omega (arith, long, low v h))))

module _ {n : ℕ} {t : List Vertex} {keep g : ℕ} {u : List Vertex} (r : Ready n t keep g) (q : Relinked t keep g u) where
  pub relink_falls : (v : ℕ) → v < length t → Stands u v → Stands t v × (v ≡ g → ⊥)
  relink_falls v h s = elim (cases_eq (link_of t v / 2) g) [
    | inl e ↦ absurd (omega (arith, q.moved v h e, half_carried keep (link_of t v), link_low r.shape v h, r.before))
    | inr e ↦ (let k = q.kept v h e in
        let st : Stands t v = sym k ∙ s in
        (st, λ p. e (omega arith)))
  ]

  pub relink_stays : (v : ℕ) → v < length t → (v ≡ g → ⊥) → Stands t v → Stands u v
  relink_stays v h e s = q.kept v h (λ p. e (omega arith)) ∙ s

  relink_linked : (v : ℕ) → v < length t → (link_of u v ≡ 2 * v) ⊎ ((link_of u v / 2 < v) × (link_of u (link_of u v / 2) ≡ 2 * (link_of u v / 2)))
  relink_linked v h = elim (cases_eq (link_of t v / 2) g) [
    | inl e ↦ (let k : link_of u v / 2 ≡ keep / 2 = ap (λ (l : ℕ). l / 2) (q.moved v h e) ∙ half_carried keep (link_of t v) in
        let low = link_low r.shape v h in
        let lt = r.before in
        let inn = r.inside in
        inr (omega arith, subst (λ (l : ℕ). Stands u l) (sym k) (relink_stays (keep / 2) (omega arith) (λ p. omega arith) r.onto)))
    | inr e ↦ (let k = q.kept v h e in elim (r.shape.linked v h) [
      | inl s ↦ inl (k ∙ s)
      | inr p ↦ inr (subst (λ (l : ℕ). l / 2 < v) (sym k) p.0, subst (λ (l : ℕ). Stands u (l / 2)) (sym k) (relink_stays (link_of t v / 2) (omega (arith, p.0)) e p.1))
    ])
  ]

  pub relink_shape : Shape n u
  relink_shape = record {
    small = omega (arith, q.long, r.shape.small);
    linked = λ v h. relink_linked v (omega (arith, q.long));
    earlier = λ v gt h. (let h2 : v < length t = omega (arith, q.long) in
        let e = r.shape.earlier v gt h2 in
        (subst (λ (l : ℕ). l / 2 < v) (sym (q.lefts v h2)) e.0, subst (λ (l : ℕ). l / 2 < v) (sym (q.rights v h2)) e.1));
  }

  relink_clean : (x : ℕ) → Clean n u x → Clean n t x
  relink_clean x c =
      let h : x < length t = omega (arith, q.long, c.inside) in
      let e = r.shape.earlier x c.gate h in
      record {
        gate = c.gate;
        inside = h;
        stands = (relink_falls x h c.stands).0;
        first = (relink_falls (left_of t x / 2) (omega (arith, e.0)) (subst (λ (l : ℕ). Stands u (l / 2)) (q.lefts x h) c.first)).0;
        second = (relink_falls (right_of t x / 2) (omega (arith, e.1)) (subst (λ (l : ℕ). Stands u (l / 2)) (q.rights x h) c.second)).0;
      }

  pub relink_midway : Midway n u
  relink_midway = record {
    shape = relink_shape;
    unique = λ x y cx cy p s.
        (let hx : x < length t = omega (arith, q.long, cx.inside) in
        let hy : y < length t = omega (arith, q.long, cy.inside) in
        r.unique x y (relink_falls x hx cx.stands).1 (relink_falls y hy cy.stands).1 (relink_clean x cx) (relink_clean y cy)
        (sym (q.lefts x hx) ∙ p ∙ q.lefts y hy) (sym (q.rights x hx) ∙ s ∙ q.rights y hy));
    proper = λ x c.
        (let h : x < length t = omega (arith, q.long, c.inside) in
        let p = r.proper x (relink_clean x c) in
        omega (arith, p.0, p.1, q.lefts x h, q.rights x h));
  }

  pub relink_stale : (x o : ℕ) → Stale n u x o → Stale n t x o ⊎ (o ≡ g)
  relink_stale x o d = elim (cases_eq o g) [
    | inl e ↦ inr e
    | inr e ↦ (let h : x < length t = omega (arith, q.long, d.inside) in
        let lt = stale_before relink_shape x o d in
        inl (record {
          gate = d.gate;
          inside = h;
          stands = (relink_falls x h d.stands).0;
          lost = λ s. d.lost (relink_stays o (omega arith) e s);
          reads = elim d.reads [
            | inl p ↦ inl (ap (λ (l : ℕ). l / 2) (sym (q.lefts x h)) ∙ p)
            | inr p ↦ inr (ap (λ (l : ℕ). l / 2) (sym (q.rights x h)) ∙ p)
          ];
        }))
  ]

  relink_links : {X : Type 0} (A : Algebra X) (ρ : ℕ → X) → Respects A n ρ t → net_at A ρ keep ≡ ρ g → (v : ℕ) → v < length t → ρ v ≡ net_at A ρ (link_of u v)
  relink_links A ρ s e v h = elim (cases_eq (link_of t v / 2) g) [
    | inl p ↦ s.links v h ∙ ap (flip A.opposite (link_of t v % 2)) (ap ρ p ∙ sym e) ∙ value_carried A ρ keep (link_of t v) ∙ ap (net_at A ρ) (sym (q.moved v h p))
    | inr p ↦ s.links v h ∙ ap (net_at A ρ) (sym (q.kept v h p))
  ]

  pub relink_respects : {X : Type 0} (A : Algebra X) (ρ : ℕ → X) → Respects A n ρ t → net_at A ρ keep ≡ ρ g → Respects A n ρ u
  relink_respects A ρ s e = record {
    base = s.base;
    gates = λ v gt h. (let h2 : v < length t = omega (arith, q.long) in
        s.gates v gt h2 ∙ ap (λ (l : ℕ). A.both (net_at A ρ l) (net_at A ρ (right_of t v))) (sym (q.lefts v h2))
        ∙ ap (λ (l : ℕ). A.both (net_at A ρ (left_of u v)) (net_at A ρ l)) (sym (q.rights v h2)));
    links = λ v h. relink_links A ρ s e v (omega (arith, q.long));
  }

  pub relink_before : (v : ℕ) → v < g → get_or u v none ≡ get_or t v none
  relink_before v h =
      let inn = r.inside in
      let h2 : v < length t = omega arith in
      let low = link_low r.shape v h2 in
      vertex_ext (get_or u v none) (get_or t v none) (q.lefts v h2) (q.rights v h2) (q.kept v h2 (λ p. omega arith))

  pub relink_at : link_of u g ≡ keep
  relink_at =
      let s = r.stands in
      q.moved g r.inside (omega arith) ∙ omega arith

  relink_composed : Composed t u
  relink_composed v h =
      let low = link_low r.shape v h in
      let st = link_stands r.shape v h in
      elim (cases_eq (link_of t v / 2) g) [
        | inl e ↦ q.moved v h e ∙ ap (λ (k : ℕ). carried k (link_of t v)) (sym (ap (link_of u) e ∙ relink_at))
        | inr e ↦ q.kept v h e ∙ carried_own (link_of t v) (link_of u (link_of t v / 2))
            (q.kept (link_of t v / 2) (omega arith) (λ p. e (omega arith)) ∙ st)
      ]

  -- ---- the sweep

  pub sweep_none : Sweeping n u g (g + 1) u
  sweep_none = record {
    step = record { long = refl; midway = relink_midway; falls = λ v h s. s; before = λ v h. refl; composed = composed_none relink_shape };
    low = λ v h. link_low relink_shape v h;
    stale = λ x o d. (d, λ e. (let lt = stale_before relink_shape x o d in omega arith));
    follows = λ c A ρ s. s;
  }

  module _ {i : ℕ} {s : List Vertex} (w : Sweeping n u g i s) where
    pub sweep_at : link_of s g ≡ keep
    sweep_at = ap (λ (x : Vertex). x.link.0) (w.step.before g (omega arith)) ∙ relink_at

    pub sweep_lost : Stands s g → ⊥
    sweep_lost p = let e = sweep_at in let lt = r.before in omega arith

    pub sweep_less : standing s (length s) < standing t (length t)
    sweep_less =
        let l : length s ≡ length t = w.step.long ∙ q.long in
        subst (λ (m : ℕ). standing s m < standing t (length t)) (sym l)
        (standing_less t s (length t) g (λ v h p. (relink_falls v h (w.step.falls v (omega (arith, q.long)) p)).0) r.inside r.stands sweep_lost)

    pub sweep_dirty : g < i → i < length s → Stands s i → ((left_of s i / 2 ≡ g) ⊎ (right_of s i / 2 ≡ g)) → Dirty n s i
    sweep_dirty gt h p e =
        let gate = r.gate in
        record {
          midway = w.step.midway;
          read = g;
          stale = record { gate = omega arith; inside = h; stands = p; lost = sweep_lost; reads = e };
        }

    pub sweep_all : length u ≤ i → Merged n t keep g s
    sweep_all h = record {
      step = record {
        long = w.step.long ∙ q.long;
        midway = w.step.midway;
        falls = λ v l p. (relink_falls v l (w.step.falls v (omega (arith, q.long)) p)).0;
        before = λ v l. w.step.before v (omega arith) ∙ relink_before v l;
        composed = composed_more t u s q.long (λ v h. link_low r.shape v h) relink_composed w.step.composed;
      };
      linked = sweep_at;
      stale = λ x o d. (let b = w.stale x o d in elim (relink_stale x o b.0) [
        | inl e ↦ e
        | inr e ↦ absurd (omega (arith, b.1 e, b.0.inside))
      ]);
      forced = λ c A ρ a e. w.follows c A ρ (relink_respects A ρ a e);
    }

pub sweep_more : {n g i : ℕ} {u s z : List Vertex} → Sweeping n u g i s → g < i → Rehashed n s i z → Sweeping n u g (i + 1) z
sweep_more {n} {g} {i} {u} {s} {z} w gt r = record {
  step = record {
    long = r.step.long ∙ w.step.long;
    midway = r.step.midway;
    falls = λ v h p. w.step.falls v h (r.step.falls v (omega (arith, w.step.long)) p);
    before = λ v h. r.step.before v (omega arith) ∙ w.step.before v h;
    composed = composed_more u s z w.step.long w.low w.step.composed r.step.composed;
  };
  low = w.low;
  stale = λ x o d. (let a = r.stale x o d in let b = w.stale x o a.0 in
      (b.0, λ e. (let k = b.1 e in let ne = a.1 in omega arith)));
  follows = λ c A ρ a. r.follows c A ρ (w.follows c A ρ a);
}

pub sweep_skip : {n g i : ℕ} {u s : List Vertex} → Sweeping n u g i s
    → (Stands s i → ((left_of s i / 2 ≡ g) ⊎ (right_of s i / 2 ≡ g)) → ⊥) → Sweeping n u g (i + 1) s
sweep_skip {n} {g} {i} {u} {s} w none-there = record {
  step = w.step;
  low = w.low;
  stale = λ x o d. (let b = w.stale x o d in (
    b.0,
    λ e. elim (cases_eq x i) [
      | inl p ↦ absurd (none-there (subst (λ (k : ℕ). Stands s k) p d.stands)
          (subst (λ (k : ℕ). (left_of s k / 2 ≡ g) ⊎ (right_of s k / 2 ≡ g)) p (subst (λ (k : ℕ). (left_of s x / 2 ≡ k) ⊎ (right_of s x / 2 ≡ k)) e d.reads)))
      | inr p ↦ omega (arith, b.1 e)
    ],
  ));
  follows = w.follows;
}
