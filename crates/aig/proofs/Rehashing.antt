-- what `rehash` needs: the new pair, a merge of the vertex itself, and the pair written
use Rattle.std.proofs.Common.{◌≡◌, ℕ, ◌*◌, ◌/◌, ◌%◌, ◌<◌, ◌≤◌, ◌⊎◌, List, length, get_or, set, sym, ap, ◌∙◌, subst, inl, inr, arith, length-set, get_or-set_other, get_or-set_same}
use Rattle.std.proofs.lemmas.Bool.{cases_eq}
use Rattle.aig.specs.Table.{vertex, none, left_of, right_of, link_of, survivor_of, Stands, standing}
use Rattle.aig.specs.Nets.{carried, flip}
use Rattle.aig.specs.Cascade.{Composed, Shape, Stale, Clean, UniqueBut, AllProper, Ready, Merged, Rehashed, Dirty}
use Rattle.aig.specs.Invariant.{Proper}
use Rattle.aig.specs.Pairs.{Ordered, Folds, zero_first, one_first, same, opposed, at, Known, folds, found}
use Rattle.aig.specs.Algebras.{Algebra, Of, Carrier, Respects, net_at}
use Rattle.aig.proofs.Orders.{either, of_both}
use Rattle.aig.specs.declared.vertex.Vertex.{Vertex}
use Rattle.aig.proofs.Nets.{half_carried, value_carried, value_twice}
use Rattle.aig.proofs.Counts.{standing_le}
use Rattle.aig.proofs.Merging.{link_low, link_stands, composed_none, composed_more}

-- ---- survivors

pub survivor_stands : {n : ℕ} {t : List Vertex} → Shape n t → (x : ℕ) → x / 2 < length t → Stands t (survivor_of t x / 2)
survivor_stands {n} {t} s x h = subst (λ (k : ℕ). Stands t k) (sym (half_carried (link_of t (x / 2)) x)) (link_stands s (x / 2) h)

pub survivor_low : {n : ℕ} {t : List Vertex} → Shape n t → (x : ℕ) → x / 2 < length t → survivor_of t x / 2 ≤ x / 2
survivor_low {n} {t} s x h = omega (arith, half_carried (link_of t (x / 2)) x, link_low s (x / 2) h)

pub survivor_value : {n : ℕ} {t : List Vertex} {X : Type 0} (A : Algebra X) (ρ : ℕ → X) → Respects A n ρ t → (x : ℕ) → x / 2 < length t → net_at A ρ (survivor_of t x) ≡ net_at A ρ x
survivor_value {n} {t} A ρ s x h = sym (value_carried A ρ (link_of t (x / 2)) x) ∙ ap (flip A.opposite (x % 2)) (sym (s.links (x / 2) h))

-- a pair has the AND of the two nets whose survivors it is
pub pair_both : {n : ℕ} {t : List Vertex} {X : Type 0} (A : Algebra X) (ρ : ℕ → X) → Respects A n ρ t → (x y : ℕ) → x / 2 < length t → y / 2 < length t
    → {a b : ℕ} → Ordered (survivor_of t x) (survivor_of t y) a b → A.both (net_at A ρ a) (net_at A ρ b) ≡ A.both (net_at A ρ x) (net_at A ρ y)
pair_both {n} {t} {X} A ρ s x y hx hy {a} {b} o =
    let V : ℕ → X = net_at A ρ in
    let vx : V (survivor_of t x) ≡ V x = survivor_value A ρ s x hx in
    let vy : V (survivor_of t y) ≡ V y = survivor_value A ρ s y hy in
    elim (either o) [
      | inl e ↦ ap (λ (v : X). A.both v (V b)) (ap V e.0 ∙ vx) ∙ ap (A.both (V x)) (ap V e.1 ∙ vy)
      | inr e ↦ A.swapped (V a) (V b) ∙ ap (λ (v : X). A.both v (V a)) (ap V e.1 ∙ vx) ∙ ap (A.both (V x)) (ap V e.0 ∙ vy)
    ]

-- ---- a fold

pub fold_value : {X : Type 0} (A : Algebra X) (ρ : ℕ → X) → ρ 0 ≡ A.bottom → (a b net : ℕ) → Folds a b net → net_at A ρ net ≡ A.both (net_at A ρ a) (net_at A ρ b)
fold_value {X} A ρ z a b _ (zero_first e) =
    z ∙ sym (ap (λ (v : X). A.both v (net_at A ρ b)) (ap (net_at A ρ) e ∙ z) ∙ A.with_bottom (net_at A ρ b))
fold_value {X} A ρ z a b _ (one_first e) =
    sym (ap (λ (v : X). A.both v (net_at A ρ b)) (ap (net_at A ρ) e ∙ ap A.opposite z) ∙ A.with_top (net_at A ρ b))
fold_value A ρ z a b _ (same e) =
    sym (ap (λ (k : ℕ). A.both (net_at A ρ a) (net_at A ρ k)) (sym e) ∙ A.with_itself (net_at A ρ a))
fold_value {X} A ρ z a b _ (opposed e) =
    z ∙ sym (ap (λ (k : ℕ). A.both (net_at A ρ a) (net_at A ρ k)) e ∙ ap (λ (v : X). A.both (net_at A ρ a) v) (sym (value_carried A ρ a 1)) ∙ A.with_opposite (net_at A ρ a))

pub fold_vertex : (P : ℕ → Type 0) (a b net : ℕ) → Folds a b net → P 0 → P (a / 2) → P (b / 2) → P (net / 2)
fold_vertex P a b _ (zero_first e) z p q = z
fold_vertex P a b _ (one_first e) z p q = q
fold_vertex P a b _ (same e) z p q = p
fold_vertex P a b _ (opposed e) z p q = z

-- ---- the new pair of `w`

module _ {n : ℕ} {t : List Vertex} {w : ℕ} (d : Dirty n t w) where
  shape : Shape n t
  shape = d.midway.shape

  operands : (left_of t w / 2 < w) × (right_of t w / 2 < w)
  operands = shape.earlier w d.stale.gate d.stale.inside

  left_in : left_of t w / 2 < length t
  left_in = omega (arith, operands.0, d.stale.inside)

  right_in : right_of t w / 2 < length t
  right_in = omega (arith, operands.1, d.stale.inside)

  zero_stands : Stands t 0
  zero_stands = elim (shape.linked 0 (omega (arith, d.stale.inside))) [ inl e ↦ e | inr p ↦ absurd (omega (arith, p.0)) ]

  -- `w` may be merged into an earlier vertex that stands
  pub into_ready : (net : ℕ) → net / 2 < w → Stands t (net / 2) → Ready n t net w
  into_ready net h s = record {
    shape = shape;
    gate = d.stale.gate;
    inside = d.stale.inside;
    stands = d.stale.stands;
    before = h;
    onto = s;
    unique = λ x y _ _ cx cy p q. d.midway.unique x y cx cy p q;
    proper = d.midway.proper;
  }

  pub into_done : {u : List Vertex} (net : ℕ) → net / 2 < w → ((c : Carrier) (A : Algebra (Of c)) (ρ : ℕ → Of c) → Respects A n ρ t → net_at A ρ net ≡ ρ w) → Merged n t net w u → Rehashed n t w u
  into_done {u} net h f m = record {
    step = m.step;
    stale = λ x o e. (
      m.stale x o e,
      λ p.
          (let s : link_of u w ≡ 2 * w = subst (λ (k : ℕ). Stands u k) p e.stands in omega (arith, m.linked)),
    );
    follows = λ c A ρ s. m.forced c A ρ s (f c A ρ s);
  }

  module _ {a b : ℕ} (o : Ordered (survivor_of t (left_of t w)) (survivor_of t (right_of t w)) a b) where
    low_left : survivor_of t (left_of t w) / 2 < w
    low_left = let p = survivor_low shape (left_of t w) left_in in let q = operands.0 in omega arith

    low_right : survivor_of t (right_of t w) / 2 < w
    low_right = let p = survivor_low shape (right_of t w) right_in in let q = operands.1 in omega arith

    pair_low : (a / 2 < w) × (b / 2 < w)
    pair_low = of_both o (λ x. x / 2 < w) low_left low_right

    pair_stands : Stands t (a / 2) × Stands t (b / 2)
    pair_stands = of_both o (λ x. Stands t (x / 2)) (survivor_stands shape (left_of t w) left_in) (survivor_stands shape (right_of t w) right_in)

    pub pair_value : {X : Type 0} (A : Algebra X) (ρ : ℕ → X) → Respects A n ρ t → ρ w ≡ A.both (net_at A ρ a) (net_at A ρ b)
    pair_value A ρ s = s.gates w d.stale.gate d.stale.inside ∙ sym (pair_both A ρ s (left_of t w) (right_of t w) left_in right_in o)

    -- the pair folds
    fold_low : (net : ℕ) → Folds a b net → net / 2 < w
    fold_low net f = fold_vertex (λ v. v < w) a b net f (omega (arith, pair_low.0)) pair_low.0 pair_low.1

    pub fold_ready : (net : ℕ) → Folds a b net → Ready n t net w
    fold_ready net f = into_ready net (fold_low net f) (fold_vertex (λ v. Stands t v) a b net f zero_stands pair_stands.0 pair_stands.1)

    pub fold_done : {u : List Vertex} (net : ℕ) → Folds a b net → Merged n t net w u → Rehashed n t w u
    fold_done net f m = into_done net (fold_low net f) (λ c A ρ s. fold_value A ρ s.base a b net f ∙ sym (pair_value A ρ s)) m

    -- an earlier vertex has the pair
    module _ {x : ℕ} (gate : n < x) (inside : x < length t) (stands : Stands t x) (left : left_of t x ≡ a) (right : right_of t x ≡ b) where
      pub twin_value : {X : Type 0} (A : Algebra X) (ρ : ℕ → X) → Respects A n ρ t → ρ x ≡ ρ w
      twin_value A ρ s =
          s.gates x gate inside
          ∙ ap (λ (k : ℕ). A.both (net_at A ρ k) (net_at A ρ (right_of t x))) left
          ∙ ap (λ (k : ℕ). A.both (net_at A ρ a) (net_at A ρ k)) right
          ∙ sym (pair_value A ρ s)

      half_x : x ≡ 2 * x / 2
      half_x = omega arith

      pub twin_ready : x < w → Ready n t (2 * x) w
      twin_ready h = into_ready (2 * x) (omega arith) (subst (λ (k : ℕ). Stands t k) half_x stands)

      pub twin_done : {u : List Vertex} → x < w → Merged n t (2 * x) w u → Rehashed n t w u
      twin_done h m = into_done (2 * x) (omega arith) (λ c A ρ s. value_twice A ρ x ∙ twin_value A ρ s) m

      twin_clean : Clean n t x
      twin_clean = record {
        gate = gate;
        inside = inside;
        stands = stands;
        first = subst (λ (k : ℕ). Stands t (k / 2)) (sym left) pair_stands.0;
        second = subst (λ (k : ℕ). Stands t (k / 2)) (sym right) pair_stands.1;
      }

      -- `w` itself has not the pair, since it reads what does not stand
      pub twin_other : x ≡ w → ⊥
      twin_other e = elim d.stale.reads [
        | inl p ↦ d.stale.lost (subst (λ (k : ℕ). Stands t k) p (subst (λ (k : ℕ). Stands t (left_of t k / 2)) e twin_clean.first))
        | inr p ↦ d.stale.lost (subst (λ (k : ℕ). Stands t k) p (subst (λ (k : ℕ). Stands t (right_of t k / 2)) e twin_clean.second))
      ]

    -- the pair is known, by a net of an earlier vertex
    pub known_ready : (net : ℕ) → Known n t a b net → net / 2 < w → Ready n t net w
    known_ready _ (folds net f) h = fold_ready net f
    known_ready _ (found _ p (at v s l r)) h = twin_ready s.after s.inside s.stands l r (omega arith)

    pub known_done : {u : List Vertex} (net : ℕ) → Known n t a b net → net / 2 < w → Merged n t net w u → Rehashed n t w u
    known_done _ (folds net f) h m = fold_done net f m
    known_done _ (found _ p (at v s l r)) h m = twin_done s.after s.inside s.stands l r (omega arith) m

    -- ---- the pair written

    abbrev written : List Vertex
    written = set t w (vertex a b (link_of t w))

    at_w : get_or written w none ≡ vertex a b (link_of t w)
    at_w = get_or-set_same t w (vertex a b (link_of t w)) none d.stale.inside

    off_w : (v : ℕ) → (v ≡ w → ⊥) → get_or written v none ≡ get_or t v none
    off_w v e = get_or-set_other t w v (vertex a b (link_of t w)) none e

    pub written_long : length written ≡ length t
    written_long = length-set t w (vertex a b (link_of t w))

    same_link : (v : ℕ) → link_of written v ≡ link_of t v
    same_link v = elim (cases_eq v w) [
      | inl e ↦ subst (λ (k : ℕ). link_of written k ≡ link_of t k) (sym e) (ap (λ (x : Vertex). x.link.0) at_w)
      | inr e ↦ ap (λ (x : Vertex). x.link.0) (off_w v e)
    ]

    pub to_stands : (v : ℕ) → Stands t v → Stands written v
    to_stands v s = same_link v ∙ s

    pub of_stands : (v : ℕ) → Stands written v → Stands t v
    of_stands v s = sym (same_link v) ∙ s

    pub written_shape : Shape n written
    written_shape = record {
      small = omega (arith, written_long, shape.small);
      linked = λ v h. elim (shape.linked v (omega (arith, written_long))) [
        | inl e ↦ inl (same_link v ∙ e)
        | inr p ↦ inr (subst (λ (l : ℕ). l / 2 < v) (sym (same_link v)) p.0, subst (λ (l : ℕ). Stands written (l / 2)) (sym (same_link v)) (to_stands (link_of t v / 2) p.1))
      ];
      earlier = λ v gt h. elim (cases_eq v w) [
        | inl e ↦ subst (λ (k : ℕ). (left_of written k / 2 < k) × (right_of written k / 2 < k)) (sym e)
            (subst (λ (l : ℕ). l / 2 < w) (sym (ap (λ (x : Vertex). x.left.0) at_w)) pair_low.0, subst (λ (l : ℕ). l / 2 < w) (sym (ap (λ (x : Vertex). x.right.0) at_w)) pair_low.1)
        | inr e ↦ (let p = shape.earlier v gt (omega (arith, written_long)) in
            (subst (λ (x : Vertex). x.left.0 / 2 < v) (sym (off_w v e)) p.0, subst (λ (x : Vertex). x.right.0 / 2 < v) (sym (off_w v e)) p.1))
      ];
    }

    of_clean : (v : ℕ) → (v ≡ w → ⊥) → Clean n written v → Clean n t v
    of_clean v e c = record {
      gate = c.gate;
      inside = omega (arith, c.inside, written_long);
      stands = of_stands v c.stands;
      first = of_stands _ (subst (λ (x : Vertex). Stands written (x.left.0 / 2)) (off_w v e) c.first);
      second = of_stands _ (subst (λ (x : Vertex). Stands written (x.right.0 / 2)) (off_w v e) c.second);
    }

    pub written_proper : Proper a b → AllProper n written
    written_proper p v c = elim (cases_eq v w) [
      | inl e ↦ subst (λ (k : ℕ). Proper (left_of written k) (right_of written k)) (sym e) (subst (λ (x : Vertex). Proper x.left.0 x.right.0) (sym at_w) p)
      | inr e ↦ subst (λ (x : Vertex). Proper x.left.0 x.right.0) (sym (off_w v e)) (d.midway.proper v (of_clean v e c))
    ]

    -- the pair of another clean vertex of the table, against that of `w`
    with_w : (v : ℕ) → (v ≡ w → ⊥) → left_of written v ≡ left_of written w → right_of written v ≡ right_of written w → (left_of t v ≡ a) × (right_of t v ≡ b)
    with_w v e p q = (
      sym (ap (λ (x : Vertex). x.left.0) (off_w v e)) ∙ p ∙ ap (λ (x : Vertex). x.left.0) at_w,
      sym (ap (λ (x : Vertex). x.right.0) (off_w v e)) ∙ q ∙ ap (λ (x : Vertex). x.right.0) at_w,
    )

    both_off : (x y : ℕ) → (x ≡ w → ⊥) → (y ≡ w → ⊥) → Clean n written x → Clean n written y → left_of written x ≡ left_of written y → right_of written x ≡ right_of written y → x ≡ y
    both_off x y ex ey cx cy p q = d.midway.unique x y (of_clean x ex cx) (of_clean y ey cy)
        (sym (ap (λ (x : Vertex). x.left.0) (off_w x ex)) ∙ p ∙ ap (λ (x : Vertex). x.left.0) (off_w y ey))
        (sym (ap (λ (x : Vertex). x.right.0) (off_w x ex)) ∙ q ∙ ap (λ (x : Vertex). x.right.0) (off_w y ey))

    -- where each vertex but `g` that has the pair is impossible, no two but `g` have one pair
    written_unique : (g : ℕ) → ((v : ℕ) → (v ≡ g → ⊥) → (v ≡ w → ⊥) → Clean n t v → left_of t v ≡ a → right_of t v ≡ b → ⊥) → UniqueBut n g written
    written_unique g f x y gx gy cx cy p q = elim (cases_eq x w) [
      | inl ex ↦ elim (cases_eq y w) [
        | inl ey ↦ ex ∙ sym ey
        | inr ey ↦ (let h = with_w y ey (sym p ∙ ap (left_of written) ex) (sym q ∙ ap (right_of written) ex) in absurd (f y gy ey (of_clean y ey cy) h.0 h.1))
      ]
      | inr ex ↦ elim (cases_eq y w) [
        | inl ey ↦ (let h = with_w x ex (p ∙ ap (left_of written) ey) (q ∙ ap (right_of written) ey) in absurd (f x gx ex (of_clean x ex cx) h.0 h.1))
        | inr ey ↦ both_off x y ex ey cx cy p q
      ]
    ]

    pub written_stale : (x v : ℕ) → Stale n written x v → Stale n t x v × (x ≡ w → ⊥)
    written_stale x v e = elim (cases_eq x w) [
      | inl p ↦ absurd (elim e.reads [
        | inl r ↦ e.lost (to_stands v (subst (λ (k : ℕ). Stands t k) (ap (λ (k : ℕ). k / 2) (sym (ap (left_of written) p ∙ ap (λ (x : Vertex). x.left.0) at_w)) ∙ r) pair_stands.0))
        | inr r ↦ e.lost (to_stands v (subst (λ (k : ℕ). Stands t k) (ap (λ (k : ℕ). k / 2) (sym (ap (right_of written) p ∙ ap (λ (x : Vertex). x.right.0) at_w)) ∙ r) pair_stands.1))
      ])
      | inr p ↦ (
        record {
          gate = e.gate;
          inside = omega (arith, e.inside, written_long);
          stands = of_stands x e.stands;
          lost = λ s. e.lost (to_stands v s);
          reads = subst (λ (y : Vertex). (y.left.0 / 2 ≡ v) ⊎ (y.right.0 / 2 ≡ v)) (off_w x p) e.reads;
        },
        p,
      )
    ]

    written_respects : {X : Type 0} (A : Algebra X) (ρ : ℕ → X) → Respects A n ρ t → Respects A n ρ written
    written_respects A ρ s = record {
      base = s.base;
      gates = λ v gt h. elim (cases_eq v w) [
        | inl e ↦ subst (λ (k : ℕ). ρ k ≡ A.both (net_at A ρ (left_of written k)) (net_at A ρ (right_of written k))) (sym e)
            (subst (λ (x : Vertex). ρ w ≡ A.both (net_at A ρ x.left.0) (net_at A ρ x.right.0)) (sym at_w) (pair_value A ρ s))
        | inr e ↦ subst (λ (x : Vertex). ρ v ≡ A.both (net_at A ρ x.left.0) (net_at A ρ x.right.0)) (sym (off_w v e)) (s.gates v gt (omega (arith, written_long)))
      ];
      links = λ v h. s.links v (omega (arith, written_long)) ∙ ap (net_at A ρ) (sym (same_link v));
    }

    written_composed : Composed t written
    written_composed v h = same_link v ∙ composed_none shape v h ∙ ap (λ (k : ℕ). carried k (link_of t v)) (sym (same_link (link_of t v / 2)))

    written_falls : (v : ℕ) → v < length t → Stands written v → Stands t v
    written_falls v h s = of_stands v s

    -- no other vertex has the pair
    pub alone_done : Proper a b → ((k : ℕ) → n < k → k < length t → Stands t k → left_of t k ≡ a → right_of t k ≡ b → ⊥) → Rehashed n t w written
    alone_done p f = record {
      step = record {
        long = written_long;
        midway = record {
          shape = written_shape;
          unique = λ x y cx cy p q. written_unique (length t) (λ v _ _ c l r. f v c.gate c.inside c.stands l r) x y
              (λ e. omega (arith, cx.inside, written_long)) (λ e. omega (arith, cy.inside, written_long)) cx cy p q;
          proper = written_proper p;
        };
        falls = written_falls;
        before = λ v h. off_w v (λ e. omega arith);
        composed = written_composed;
      };
      stale = written_stale;
      follows = λ c A ρ s. written_respects A ρ s;
    }

    pub written_less : standing written (length written) ≤ standing t (length t)
    written_less = subst (λ (m : ℕ). standing written m ≤ standing t (length t)) (sym written_long) (standing_le t written (length t) written_falls)

    -- a later vertex has the pair
    module _ {x : ℕ} (gate : n < x) (inside : x < length t) (stands : Stands t x) (left : left_of t x ≡ a) (right : right_of t x ≡ b) (later : w ≤ x) where
      after : w < x
      after = let ne = twin_other gate inside stands left right in omega arith

      pub later_ready : Proper a b → Ready n written (2 * w) x
      later_ready p = record {
        shape = written_shape;
        gate = gate;
        inside = omega (arith, inside, written_long);
        stands = to_stands x stands;
        before = omega (arith, after);
        onto = (let h : w ≡ 2 * w / 2 = omega arith in subst (λ (k : ℕ). Stands written k) h (to_stands w d.stale.stands));
        unique = written_unique x (λ v e _ c l r. e (d.midway.unique v x c (twin_clean gate inside stands left right) (l ∙ sym left) (r ∙ sym right)));
        proper = written_proper p;
      }

      pub later_done : {u : List Vertex} → Merged n written (2 * w) x u → Rehashed n t w u
      later_done {u} m = record {
        step = record {
          long = m.step.long ∙ written_long;
          midway = m.step.midway;
          falls = λ v h s. of_stands v (m.step.falls v (omega (arith, written_long)) s);
          before = λ v h. m.step.before v (omega (arith, after)) ∙ off_w v (λ e. omega arith);
          composed = composed_more t written u written_long (λ v h. link_low shape v h) written_composed m.step.composed;
        };
        stale = λ y v e. written_stale y v (m.stale y v e);
        follows = λ c A ρ s. m.forced c A ρ (written_respects A ρ s) (value_twice A ρ w ∙ sym (twin_value gate inside stands left right A ρ s));
      }

    -- the pair is known, by the net of a later vertex
    pub after_ready : (net : ℕ) → Known n t a b net → w ≤ net / 2 → Ready n written (2 * w) (net / 2)
    after_ready _ (folds net f) h = let k = fold_low net f in absurd (omega arith)
    after_ready _ (found _ p (at v s l r)) h =
        let half : v ≡ 2 * v / 2 = omega arith in
        subst (λ (k : ℕ). Ready n written (2 * w) k) half (later_ready s.after s.inside s.stands l r (omega arith) p)

    pub after_done : {u : List Vertex} (net : ℕ) → Known n t a b net → w ≤ net / 2 → Merged n written (2 * w) (net / 2) u → Rehashed n t w u
    after_done _ (folds net f) h m = let k = fold_low net f in absurd (omega arith)
    after_done {u} _ (found _ p (at v s l r)) h m =
        let half : 2 * v / 2 ≡ v = omega arith in
        later_done s.after s.inside s.stands l r (omega arith) (subst (λ (k : ℕ). Merged n written (2 * w) k u) half m)
