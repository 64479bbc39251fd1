-- the AND of two nets: the values of the nets that are known, and a table with one more vertex
use Rattle.std.proofs.Common.{◌≡◌, ℕ, ◌+◌, ◌-◌, ◌*◌, ◌/◌, ◌%◌, ◌<◌, Bool, false, cond, not, ◌&&◌, eqb, leb, ◌⊎◌, List, [], ◌∷◌, ◌++◌, length, get_or, sym, refl, ap, ◌∙◌, subst, inl, inr, arith}
use Rattle.std.proofs.lemmas.Bool.{cases_eq}
use Rattle.std.proofs.lemmas.List.{length_push, get_or_push, get_or_append_left}
use Rattle.aig.specs.Table.{vertex, none, left_of, right_of, link_of, survivor_of, Stands}
use Rattle.aig.specs.Invariant.{Proper, StandingGate, MergedAway, Twins, ReadsEarlier, Whole}
use Rattle.aig.specs.Pairs.{Ordered, at, Known, folds, found, Unknown}
use Rattle.aig.specs.Nets.{flip, net_value}
use Rattle.aig.specs.Algebras.{booleans}
use Rattle.aig.specs.Values.{bit, value_by, vertex_value, value}
use Rattle.aig.specs.Ands.{Anded}
use Rattle.aig.proofs.Orders.{of_both}
use Rattle.aig.specs.declared.vertex.Vertex.{Vertex}
use Rattle.aig.proofs.Nets.{value_twice}
use Rattle.aig.proofs.Merging.{link_low}
use Rattle.aig.proofs.Rehashing.{survivor_stands, survivor_low, pair_both, fold_value, fold_vertex}
use Rattle.aig.proofs.Valued.{value_obeys, value_zero, value_gate, value_only}
use Rattle.aig.proofs.Lines.{known_lines, fresh_lines}
use Rattle.aig.proofs.Wholes.{shape_of, respects_of}

-- ---- the pair of two nets

module _ {n : ℕ} {t : List Vertex} (w : Whole n t) (x y : ℕ) {a b : ℕ} (hx : x / 2 < length t) (hy : y / 2 < length t) (o : Ordered (survivor_of t x) (survivor_of t y) a b) where
  low : (z : ℕ) → z / 2 < length t → survivor_of t z / 2 < length t
  low z h = omega (arith, survivor_low (shape_of w) z h)

  pub pair_in : (a / 2 < length t) × (b / 2 < length t)
  pair_in = of_both o (λ z. z / 2 < length t) (low x hx) (low y hy)

  pub pair_up : Stands t (a / 2) × Stands t (b / 2)
  pair_up = of_both o (λ z. Stands t (z / 2)) (survivor_stands (shape_of w) x hx) (survivor_stands (shape_of w) y hy)

  pub pair_and : (code : ℕ) → (net_value (vertex_value n t code) a && net_value (vertex_value n t code) b) ≡ (net_value (vertex_value n t code) x && net_value (vertex_value n t code) y)
  pair_and code = pair_both booleans (vertex_value n t code) (respects_of w code) x y hx hy o

  known_value : (net : ℕ) → Known n t a b net → (code : ℕ) → net_value (vertex_value n t code) net ≡ (net_value (vertex_value n t code) a && net_value (vertex_value n t code) b)
  known_value _ (folds net f) code = fold_value booleans (vertex_value n t code) (value_zero n t code) a b net f
  known_value _ (found _ p (at v s l r)) code =
      value_twice booleans (vertex_value n t code) v ∙ value_gate n t w.earlier code v s.after s.inside
      ∙ ap (λ (k : ℕ). net_value (vertex_value n t code) k && net_value (vertex_value n t code) (right_of t v)) l
      ∙ ap (λ (k : ℕ). net_value (vertex_value n t code) a && net_value (vertex_value n t code) k) r

  known_in : (net : ℕ) → Known n t a b net → net / 2 < length t
  known_in _ (folds net f) = fold_vertex (λ v. v < length t) a b net f (omega (arith, hx)) pair_in.0 pair_in.1
  known_in _ (found _ p (at v s l r)) = omega (arith, s.inside)

  pub known_anded : (net : ℕ) → Known n t a b net → Anded n t x y net t
  unfolding value
  known_anded net k = record {
    lines = known_lines w x y o net k;
    within = known_in net k;
    one_more = omega arith;
    extends = record { longer = omega arith; same = λ code v h. refl };
    is_and = λ code. known_value net k code ∙ pair_and code;
  }

-- ---- one more vertex

module _ {n : ℕ} {t : List Vertex} (w : Whole n t) (a b : ℕ) (un : Unknown n t a b) (ha : a / 2 < length t) (sa : Stands t (a / 2)) (hb : b / 2 < length t) (sb : Stands t (b / 2)) where
  abbrev new : Vertex
  new = vertex a b (2 * length t)

  abbrev more : List Vertex
  more = t ++ new ∷ []

  long : length more ≡ length t + 1
  long = length_push t new

  old_at : (v : ℕ) → v < length t → get_or more v none ≡ get_or t v none
  old_at v h = get_or_append_left t (new ∷ []) none v h

  new_at : get_or more (length t) none ≡ new
  new_at = get_or_push t new none (length t) refl

  to_stands : (v : ℕ) → v < length t → Stands t v → Stands more v
  to_stands v h s = ap (λ (x : Vertex). x.link.0) (old_at v h) ∙ s

  of_stands : (v : ℕ) → v < length t → Stands more v → Stands t v
  of_stands v h s = sym (ap (λ (x : Vertex). x.link.0) (old_at v h)) ∙ s

  -- a vertex is an old one or the new one
  which : (v : ℕ) → v < length more → (v < length t) ⊎ (v ≡ length t)
  which v h = elim (cases_eq v (length t)) [ inl e ↦ inr e | inr e ↦ inl (omega (arith, long)) ]

  old_gate : (v : ℕ) → v < length t → StandingGate n more v → StandingGate n t v
  old_gate v h s = record { after = s.after; inside = h; stands = of_stands v h s.stands }

  -- a fact of each vertex, from the fact of each old one and of the new one
  each : (P : ℕ → Vertex → Type 0) (v : ℕ) → v < length more → (v < length t → P v (get_or t v none)) → P (length t) new → P v (get_or more v none)
  each P v h f q = elim (which v h) [
    | inl k ↦ subst (λ (x : Vertex). P v x) (sym (old_at v k)) (f k)
    | inr e ↦ subst (λ (k : ℕ). P k (get_or more k none)) (sym e) (subst (λ (x : Vertex). P (length t) x) (sym new_at) q)
  ]

  more_earlier : ReadsEarlier n more
  more_earlier v g = each (λ k x. (x.left.0 / 2 < k) × (x.right.0 / 2 < k)) v g.inside
      (λ h. w.earlier v (record { after = g.after; inside = h })) (ha, hb)

  more_linked : (v : ℕ) → MergedAway more v → (link_of more v / 2 < v) × Stands more (link_of more v / 2)
  more_linked v m = elim (which v m.inside) [
    | inl h ↦ (let p = w.linked v (record { inside = h; lost = λ s. m.lost (to_stands v h s) }) in
        subst (λ (x : Vertex). (x.link.0 / 2 < v) × Stands more (x.link.0 / 2)) (sym (old_at v h)) (p.0, to_stands (link_of t v / 2) (omega (arith, p.0)) p.1))
    | inr e ↦ absurd (m.lost (subst (λ (k : ℕ). Stands more k) (sym e) (ap (λ (x : Vertex). x.link.0) new_at)))
  ]

  more_standing : (v : ℕ) → StandingGate n more v → Stands more (left_of more v / 2) × Stands more (right_of more v / 2)
  more_standing v s = each (λ k x. Stands more (x.left.0 / 2) × Stands more (x.right.0 / 2)) v s.inside
      (λ h. (let p = w.standing v (old_gate v h s) in let e = w.earlier v (record { after = s.after; inside = h }) in
      (to_stands (left_of t v / 2) (omega (arith, e.0)) p.0, to_stands (right_of t v / 2) (omega (arith, e.1)) p.1)))
      (to_stands (a / 2) ha sa, to_stands (b / 2) hb sb)

  more_proper : (v : ℕ) → StandingGate n more v → Proper (left_of more v) (right_of more v)
  more_proper v s = each (λ k x. Proper x.left.0 x.right.0) v s.inside (λ h. w.proper v (old_gate v h s)) un.proper

  -- an old vertex has not the new one's pair
  apart : (v : ℕ) → v < length t → StandingGate n more v → left_of more v ≡ left_of more (length t) → right_of more v ≡ right_of more (length t) → ⊥
  apart v h s p q = un.absent v (old_gate v h s)
      (sym (ap (λ (x : Vertex). x.left.0) (old_at v h)) ∙ p ∙ ap (λ (x : Vertex). x.left.0) new_at)
      (sym (ap (λ (x : Vertex). x.right.0) (old_at v h)) ∙ q ∙ ap (λ (x : Vertex). x.right.0) new_at)

  more_unique : (x y : ℕ) → Twins n more x y → x ≡ y
  more_unique x y e = elim (which x e.one.inside) [
    | inl hx ↦ elim (which y e.other.inside) [
      | inl hy ↦ w.unique x y (record {
        one = old_gate x hx e.one;
        other = old_gate y hy e.other;
        lefts = sym (ap (λ (v : Vertex). v.left.0) (old_at x hx)) ∙ e.lefts ∙ ap (λ (v : Vertex). v.left.0) (old_at y hy);
        rights = sym (ap (λ (v : Vertex). v.right.0) (old_at x hx)) ∙ e.rights ∙ ap (λ (v : Vertex). v.right.0) (old_at y hy);
      })
      | inr ey ↦ absurd (apart x hx e.one (e.lefts ∙ ap (left_of more) ey) (e.rights ∙ ap (right_of more) ey))
    ]
    | inr ex ↦ elim (which y e.other.inside) [
      | inl hy ↦ absurd (apart y hy e.other (sym e.lefts ∙ ap (left_of more) ex) (sym e.rights ∙ ap (right_of more) ex))
      | inr ey ↦ ex ∙ sym ey
    ]
  ]

  more_by : (code : ℕ) (ρ : ℕ → Bool) (v : ℕ) → v < length t → value_by n more code ρ v ≡ value_by n t code ρ v
  more_by code ρ v h = ap (λ (x : Vertex). cond (eqb v 0) false (cond (leb v n) (bit code (v - 1)) (net_value ρ x.left.0 && net_value ρ x.right.0))) (old_at v h)

  pub more_same : (code v : ℕ) → v < length t → vertex_value n more code v ≡ vertex_value n t code v
  more_same code v h = sym (value_only n t w.earlier code (vertex_value n more code)
      (λ x k. value_obeys n more more_earlier code x (omega (arith, long)) ∙ more_by code (vertex_value n more code) x k) v h)

  more_equal : (code v : ℕ) → v < length more → vertex_value n more code v ≡ net_value (vertex_value n more code) (link_of more v)
  more_equal code v h = each (λ k x. vertex_value n more code k ≡ net_value (vertex_value n more code) x.link.0) v h
      (λ k. (let low = link_low (shape_of w) v k in
      more_same code v k ∙ w.equal code v k ∙ ap (flip not (link_of t v % 2)) (sym (more_same code (link_of t v / 2) (omega arith)))))
      (sym (value_twice booleans (vertex_value n more code) (length t)))

  pub more_whole : length t < 4096 → Whole n more
  more_whole room = record {
    few = λ h. omega (arith, long, w.few (omega (arith, ha)));
    small = omega (arith, long, w.small);
    linked = more_linked;
    earlier = more_earlier;
    standing = more_standing;
    proper = more_proper;
    unique = more_unique;
    equal = more_equal;
  }

  more_value : (code : ℕ) → net_value (vertex_value n more code) (2 * length t) ≡ (net_value (vertex_value n t code) a && net_value (vertex_value n t code) b)
  more_value code =
      value_twice booleans (vertex_value n more code) (length t)
      ∙ value_gate n more more_earlier code (length t) (w.few (omega (arith, ha))) (omega (arith, long))
      ∙ ap (λ (x : Vertex). net_value (vertex_value n more code) x.left.0 && net_value (vertex_value n more code) x.right.0) new_at
      ∙ ap (λ (v : Bool). flip not (a % 2) v && net_value (vertex_value n more code) b) (more_same code (a / 2) ha)
      ∙ ap (λ (v : Bool). net_value (vertex_value n t code) a && flip not (b % 2) v) (more_same code (b / 2) hb)

  pub more_anded : (x y : ℕ) → x / 2 < length t → y / 2 < length t → Ordered (survivor_of t x) (survivor_of t y) a b → Anded n t x y (2 * length t) more
  unfolding value
  more_anded x y hx hy o = record {
    lines = fresh_lines w x y o un;
    within = omega (arith, long);
    one_more = omega (arith, long);
    extends = record { longer = omega (arith, long); same = more_same };
    is_and = λ code. more_value code ∙ pair_and w x y hx hy o code;
  }

  pub grown_anded : (x y : ℕ) → x / 2 < length t → y / 2 < length t → Ordered (survivor_of t x) (survivor_of t y) a b
      → (net : ℕ) (u : List Vertex) → net ≡ 2 * length t → u ≡ more → Anded n t x y net u
  grown_anded x y hx hy o net u p q = subst (λ (k : ℕ). Anded n t x y k u) (sym p) (subst (λ (s : List Vertex). Anded n t x y (2 * length t) s) (sym q) (more_anded x y hx hy o))
