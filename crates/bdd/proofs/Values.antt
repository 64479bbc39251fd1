-- What holds of the values of edges.
use Rattle.std.proofs.Common.{◌≡◌, ℕ, zero, suc, ◌+◌, ◌-◌, ◌*◌, ◌/◌, ◌%◌, ◌<◌, ◌≤◌, Bool, true, false, cond, not, List, [], ◌∷◌, ◌++◌, length, get_or, take, Some, None, Option, is_some, sym, refl, ap, ◌∙◌, subst, inl, inr, ⊎_elim, arith, length-append, MatchOption}
use Rattle.std.proofs.Math.Bool.{not-not}
use Rattle.std.proofs.lemmas.Bool.Decides.{nat_tests}
use Rattle.std.proofs.lemmas.List.{get_or_read, get_or_append_left, get_or_push, get_or_default, get_or-take, length-take-le, same_lists}
use Rattle.std.proofs.lemmas.Bool.{ne_eqb, cases_lt, true≢false}
use Rattle.bdd.specs.declared.store.nodes.Node.{Node}
use Rattle.bdd.specs.Diagram.{child, node, node_at, flip, turned, turn, inverted, edge, branch, value, eval, var_at, top, Fits, Good, Grown}
use Rattle.bdd.specs.Steps.{Cofactor, Made, Placed, Short}
use Rattle.bdd.specs.Index.{Lacks}

pub edge_like : (f g : ℕ → Bool) (e : ℕ) → f (e / 2) ≡ g (e / 2) → edge f e ≡ edge g e
edge_like f g e h = ap (turned (inverted e)) h

pub branch_like : (ρ f g : ℕ → Bool) (n : Node) → f (n.high / 2) ≡ g (n.high / 2) → f (n.low / 2) ≡ g (n.low / 2) → branch ρ f n ≡ branch ρ g n
branch_like ρ f g n h l =
    elim (ρ n.var) as (λ b. ◌≡◌ {A = Bool} (elim b [ true ↦ edge f n.high | false ↦ edge f n.low ]) (elim b [ true ↦ edge g n.high | false ↦ edge g n.low ])) [
      | true ↦ edge_like f g n.high h
      | false ↦ edge_like f g n.low l
    ]

-- the depth does not matter, nor do nodes past those of ns
pub value_agrees : (ns ms : List Node) (ρ : ℕ → Bool) → Good ns → Grown ns ms → (k k' j : ℕ) → j ≤ k → j ≤ k' → j ≤ length ns → value k ns ρ j ≡ value k' ms ρ j
unfolding value
value_agrees ns ms ρ good grown zero zero j h h' inside = refl
value_agrees ns ms ρ good grown zero (suc k') zero h h' inside = refl
value_agrees ns ms ρ good grown zero (suc k') (suc i) h h' inside = absurd (omega arith)
value_agrees ns ms ρ good grown (suc k) zero zero h h' inside = refl
value_agrees ns ms ρ good grown (suc k) zero (suc i) h h' inside = absurd (omega arith)
value_agrees ns ms ρ good grown (suc k) (suc k') zero h h' inside = refl
value_agrees ns ms ρ good grown (suc k) (suc k') (suc i) h h' inside =
    let n : Node = node_at ns i in
    let fits : Fits ns i n = good.fits i inside in
    let hb = fits.high_back in
    let lb = fits.low_back in
    branch_like ρ (value k ns ρ) (value k' ms ρ) n
    (value_agrees ns ms ρ good grown k k' (n.high / 2) (omega arith) (omega arith) (omega arith))
    (value_agrees ns ms ρ good grown k k' (n.low / 2) (omega arith) (omega arith) (omega arith))
    ∙ ap (branch ρ (value k' ms ρ)) (sym (grown.kept i inside))

pub grown_self : (ns : List Node) → Grown ns ns
grown_self ns = record { longer = omega arith; kept = λ i h. refl }

pub grown_on : (ns ms os : List Node) → Grown ns ms → Grown ms os → Grown ns os
grown_on ns ms os g h =
    let gl = g.longer in
    let hl = h.longer in
    record { longer = omega arith; kept = λ i lt. h.kept i (omega arith) ∙ g.kept i lt }

-- the shorter of the two is the start of the longer
pub grown_take : (ns ms : List Node) (k : ℕ) → length ns ≡ k → Grown ns ms → ns ≡ take k ms
grown_take ns ms k is g =
    let longer = g.longer in
    let fits : k ≤ length ms = omega arith in
    same_lists ns (take k ms) (is ∙ sym (length-take-le k ms fits)) (λ i d lt.
    get_or_default ns i d (node 0 0 0) lt ∙ sym (g.kept i lt) ∙ get_or_default ms i (node 0 0 0) d (omega arith) ∙ sym (get_or-take k ms i d (omega arith)))

pub eval_kept : (ns ms : List Node) (ρ : ℕ → Bool) (e : ℕ) → Good ns → Grown ns ms → e / 2 ≤ length ns → eval ms ρ e ≡ eval ns ρ e
unfolding eval
eval_kept ns ms ρ e good grown inside =
    sym (edge_like (λ j. value j ns ρ j) (λ j. value j ms ρ j) e (value_agrees ns ms ρ good grown (e / 2) (e / 2) (e / 2) (omega arith) (omega arith) inside))

-- the value of a node, by its edges
pub value_node : (ns : List Node) (ρ : ℕ → Bool) (i : ℕ) → Good ns → i < length ns → value (suc i) ns ρ (suc i) ≡ branch ρ (λ j. value j ns ρ j) (node_at ns i)
unfolding value
value_node ns ρ i good inside =
    let n : Node = node_at ns i in
    let fits : Fits ns i n = good.fits i inside in
    let hb = fits.high_back in
    let lb = fits.low_back in
    branch_like ρ (value i ns ρ) (λ j. value j ns ρ j) n
    (value_agrees ns ns ρ good (grown_self ns) i (n.high / 2) (n.high / 2) hb (omega arith) (omega arith))
    (value_agrees ns ns ρ good (grown_self ns) i (n.low / 2) (n.low / 2) lb (omega arith) (omega arith))

pub branch_child : (ρ f : ℕ → Bool) (n : Node) (b : Bool) → ρ n.var ≡ b → branch ρ f n ≡ edge f (child n b)
branch_child ρ f n true h = let P : Bool → Type 0 = λ b. ◌≡◌ {A = Bool} (elim b [ true ↦ edge f n.high | false ↦ edge f n.low ]) (edge f n.high) in subst P (sym h) refl
branch_child ρ f n false h = let P : Bool → Type 0 = λ b. ◌≡◌ {A = Bool} (elim b [ true ↦ edge f n.high | false ↦ edge f n.low ]) (edge f n.low) in subst P (sym h) refl

pub eval_false : (ns : List Node) (ρ : ℕ → Bool) → eval ns ρ 0 ≡ false
unfolding eval value
eval_false ns ρ = refl

pub eval_true : (ns : List Node) (ρ : ℕ → Bool) → eval ns ρ 1 ≡ true
unfolding eval value
eval_true ns ρ = refl

pub flip_half : (e : ℕ) → flip e / 2 ≡ e / 2
flip_half e = omega arith

pub turned_flip : (e : ℕ) (b : Bool) → turned (inverted (flip e)) b ≡ not (turned (inverted e) b)
turned_flip e true = grind (arith, nat_tests)
turned_flip e false = grind (arith, nat_tests)

pub eval_flip : (ns : List Node) (ρ : ℕ → Bool) (e : ℕ) → eval ns ρ (flip e) ≡ not (eval ns ρ e)
unfolding eval
eval_flip ns ρ e = ap (λ j. turned (inverted (flip e)) (value j ns ρ j)) (flip_half e) ∙ turned_flip e (value (e / 2) ns ρ (e / 2))

-- what an edge's function is, where its first variable is fixed
pub eval_child : (ns : List Node) (ρ : ℕ → Bool) (e i : ℕ) (b : Bool) → Good ns → e / 2 ≡ suc i → i < length ns → ρ (node_at ns i).var ≡ b
    → eval ns ρ e ≡ turned (inverted e) (eval ns ρ (child (node_at ns i) b))
unfolding eval
eval_child ns ρ e i b good is inside h =
    ap (turned (inverted e)) (ap (λ j. value j ns ρ j) is ∙ value_node ns ρ i good inside ∙ branch_child ρ (λ j. value j ns ρ j) (node_at ns i) b h)

pub eval_turn : (ns : List Node) (ρ : ℕ → Bool) (e c : ℕ) → eval ns ρ (turn e c) ≡ turned (inverted e) (eval ns ρ c)
eval_turn ns ρ e c = elim (inverted e) as (λ b. eval ns ρ (cond b (flip c) c) ≡ turned b (eval ns ρ c)) [ true ↦ eval_flip ns ρ c | false ↦ refl ]

pub turn_half : (e c : ℕ) → turn e c / 2 ≡ c / 2
turn_half e c = elim (inverted e) as (λ b. cond b (flip c) c / 2 ≡ c / 2) [ true ↦ flip_half c | false ↦ refl ]

pub child_fits : (ns : List Node) (i : ℕ) (n : Node) (b : Bool) → Fits ns i n → (child n b / 2 ≤ i) × (n.var < top ns (child n b))
child_fits ns i n true f = (f.high_back, f.high_later)
child_fits ns i n false f = (f.low_back, f.low_later)

pub cofactor_here : (ns : List Node) (e v i r : ℕ) (b : Bool) → Good ns → e / 2 ≡ suc i → i < length ns → (node_at ns i).var ≡ v → r ≡ turn e (child (node_at ns i) b) → Cofactor ns e v b r
cofactor_here ns e v i r b good is inside at ris =
    let n : Node = node_at ns i in
    let cf = child_fits ns i n b (good.fits i inside) in
    let half : r / 2 ≡ child n b / 2 = ap (λ x. x / 2) ris ∙ turn_half e (child n b) in
    record {
      inside = omega (arith, cf.0);
      later = subst (λ j. v < var_at ns j) (sym half) (subst (λ w. w < top ns (child n b)) at cf.1);
      no_deeper = omega (arith, cf.0);
      deeper = λ _. omega (arith, cf.0);
      value_is = λ ρ h. ap (eval ns ρ) ris ∙ eval_turn ns ρ e (child n b) ∙ sym (eval_child ns ρ e i b good is inside (ap ρ at ∙ h));
    }

pub inner : (ns : List Node) (j v : ℕ) → var_at ns j ≡ v → v < 4096 → (j ≡ suc (j - 1)) × ((node_at ns (j - 1)).var ≡ v)
inner ns zero v h lt = absurd (omega arith)
inner ns (suc i) v h lt =
    let back : suc i - 1 ≡ i = omega arith in
    (omega arith, ap (λ k. (node_at ns k).var) back ∙ h)

pub cofactor_read : (ns : List Node) (e v r : ℕ) (n : Node) (b : Bool) → Good ns → e / 2 ≤ length ns → top ns e ≡ v → v < 4096 → n ≡ get_or ns (e / 2 - 1) n → r ≡ turn e (child n b) → Cofactor ns e v b r
cofactor_read ns e v r n b good inside at lt read ris =
    let is = inner ns (e / 2) v at lt in
    let i0 = is.0 in
    let near : e / 2 - 1 < length ns = omega arith in
    let same : n ≡ node_at ns (e / 2 - 1) = get_or_read ns (e / 2 - 1) n near read (node 0 0 0) in
    cofactor_here ns e v (e / 2 - 1) r b good is.0 near is.1 (ris ∙ ap (λ m. turn e (child m b)) same)

pub cofactor_same : (ns : List Node) (e v : ℕ) (b : Bool) → e / 2 ≤ length ns → v ≤ top ns e → (top ns e ≡ v → ⊥) → Cofactor ns e v b e
cofactor_same ns e v b inside le ne = record { inside = inside; later = omega arith; no_deeper = omega arith; deeper = λ h. absurd (ne h); value_is = λ ρ h. refl }

pub var_kept : (ns ms : List Node) (j : ℕ) → Grown ns ms → j ≤ length ns → var_at ms j ≡ var_at ns j
var_kept ns ms zero g h = refl
var_kept ns ms (suc i) g h = ap (λ n. n.var) (g.kept i h)

pub fits_kept : (ns ms : List Node) (i : ℕ) (n : Node) → Grown ns ms → i ≤ length ns → Fits ns i n → Fits ms i n
fits_kept ns ms i n g le f =
    let hb = f.high_back in
    let lb = f.low_back in
    record {
      high_back = hb;
      low_back = lb;
      high_later = subst (λ w. n.var < w) (sym (var_kept ns ms (n.high / 2) g (omega arith))) f.high_later;
      low_later = subst (λ w. n.var < w) (sym (var_kept ns ms (n.low / 2) g (omega arith))) f.low_later;
      straight = f.straight;
      differ = f.differ;
      bounded = f.bounded;
    }

pub grown_push : (ns : List Node) (n : Node) → Grown ns (ns ++ n ∷ [])
grown_push ns n = record { longer = simp length-append (omega arith); kept = λ i h. get_or_append_left ns (n ∷ []) (node 0 0 0) i h }

pub good_push : (ns : List Node) (n : Node) → Good ns → Fits ns (length ns) n → ((k : ℕ) → k < length ns → node_at ns k ≡ n → ⊥) → Good (ns ++ n ∷ [])
good_push ns n good f fresh =
    let ms : List Node = ns ++ n ∷ [] in
    let g : Grown ns ms = grown_push ns n in
    let long : length ms ≡ length ns + 1 = simp length-append in
    let last : node_at ms (length ns) ≡ n = get_or_push ns n (node 0 0 0) (length ns) refl in
    record {
      fits = λ i h. ⊎_elim
          (λ lt. subst (Fits ms i) (sym (g.kept i lt)) (fits_kept ns ms i (node_at ns i) g (omega arith) (good.fits i lt)))
          (λ le.
          let is : i ≡ length ns = omega arith in
          subst (λ k. Fits ms k (node_at ms k)) (sym is) (subst (Fits ms (length ns)) (sym last) (fits_kept ns ms (length ns) n g (omega arith) f)))
          (cases_lt i (length ns));
      apart = λ i j hi hj e. ⊎_elim
          (λ lti. ⊎_elim
          (λ ltj. good.apart i j lti ltj (sym (g.kept i lti) ∙ e ∙ g.kept j ltj))
          (λ lej.
          let is : j ≡ length ns = omega arith in
          absurd (fresh i lti (sym (g.kept i lti) ∙ e ∙ ap (node_at ms) is ∙ last)))
          (cases_lt j (length ns)))
          (λ lei. ⊎_elim
          (λ ltj.
          let is : i ≡ length ns = omega arith in
          absurd (fresh j ltj (sym (g.kept j ltj) ∙ sym e ∙ ap (node_at ms) is ∙ last)))
          (λ lej. omega arith)
          (cases_lt j (length ns)))
          (cases_lt i (length ns));
    }

pub turned_even : (e : ℕ) (b : Bool) → e % 2 ≡ 0 → turned (inverted e) b ≡ b
turned_even e b h = ap (λ t. turned t b) (ne_eqb (e % 2) 1 (omega arith))

pub made_straight : (ns ms : List Node) (v h l e : ℕ) → Good ns → Good ms → Grown ns ms → h / 2 ≤ length ns → l / 2 ≤ length ns → Placed ns ms (node v h l) e → Made ns ms v h l e
made_straight ns ms v h l e good good' grown hin lin p =
    let i : ℕ = p.place in
    let is : e / 2 ≡ suc i = omega (arith, p.edge_is) in
    let even : e % 2 ≡ 0 = omega (arith, p.edge_is) in
    let inside : i < length ms = p.inside in
    let at : (node_at ms i).var ≡ v = ap (λ n. n.var) p.node_is in
    let same : (ρ : ℕ → Bool) (b : Bool) → ρ v ≡ b → eval ms ρ e ≡ eval ms ρ (child (node v h l) b) = λ ρ b t.
    eval_child ms ρ e i b good' is inside (ap ρ at ∙ t) ∙ turned_even e _ even ∙ ap (λ n. eval ms ρ (child n b)) p.node_is in
    record {
      inside = omega arith;
      first = subst (λ j. v ≤ var_at ms j) (sym is) (omega (arith, at));
      high_is = λ ρ t. same ρ true t ∙ eval_kept ns ms ρ h good grown hin;
      low_is = λ ρ t. same ρ false t ∙ eval_kept ns ms ρ l good grown lin;
      news = ⊎_elim (λ e. inl e)
          (λ q.
          let long : length ms ≡ length ns + 1 = ap length q.0 ∙ simp length-append in
          let q1 = q.1 in
          inr (long, omega arith, ap (λ k. (node_at ms k).var) (sym q1) ∙ at))
          p.news;
    }

pub made_flipped : (ns ms : List Node) (v h l e : ℕ) → Made ns ms v (flip h) (flip l) e → Made ns ms v h l (flip e)
made_flipped ns ms v h l e m =
    record {
      inside = subst (λ j. j ≤ length ms) (sym (flip_half e)) m.inside;
      first = subst (λ j. v ≤ var_at ms j) (sym (flip_half e)) m.first;
      high_is = λ ρ t. eval_flip ms ρ e ∙ ap not (m.high_is ρ t ∙ eval_flip ns ρ h) ∙ not-not (eval ns ρ h);
      low_is = λ ρ t. eval_flip ms ρ e ∙ ap not (m.low_is ρ t ∙ eval_flip ns ρ l) ∙ not-not (eval ns ρ l);
      news = ⊎_elim (λ q. inl q) (λ q. inr (q.0, flip_half e ∙ q.1, q.2)) m.news;
    }

-- what a full table lacks
pub short_straight : (ns : List Node) (v h l : ℕ) → Good ns → Fits ns (length ns) (node v h l) → Lacks ns (node v h l) → Short ns v h l
short_straight ns v h l good f fresh =
    let n : Node = node v h l in
    let ms : List Node = ns ++ n ∷ [] in
    let long : length ms ≡ length ns + 1 = simp length-append in
    let good' : Good ms = good_push ns n good f fresh in
    let hb = f.high_back in
    let lb = f.low_back in
    record {
      extra = n;
      result = 2 * (length ns + 1);
      good = good';
      made = made_straight ns ms v h l (2 * (length ns + 1)) good good' (grown_push ns n) hb lb
          (record { place = length ns; edge_is = refl; inside = omega arith; node_is = get_or_push ns n (node 0 0 0) (length ns) refl; news = inr (refl, refl) });
    }

pub short_flipped : (ns : List Node) (v h l : ℕ) → Short ns v (flip h) (flip l) → Short ns v h l
short_flipped ns v h l s = record { extra = s.extra; result = flip s.result; good = s.good; made = made_flipped ns (ns ++ s.extra ∷ []) v h l s.result s.made }

-- what a `?` hands on where there is none
pub none_is : {A : Type 0} (o : Option A) (P : Type 0) (Q : A → Type 0) → o ≡ None → P → MatchOption o P Q
none_is o P Q is p = subst (λ x. MatchOption x P Q) (sym is) p

-- what holds where `is_none` is true
pub none_case : {A : Type 0} (o : Option A) (P : Type 0) (Q : A → Type 0) → is_some o ≡ false → MatchOption o P Q → P
none_case None P Q is m = m
none_case (Some x) P Q is m = absurd (true≢false is)

pub none_map : {A : Type 0} (o : Option A) (P S : Type 0) (Q R : A → Type 0) → is_some o ≡ false → (P → S) → MatchOption o P Q → MatchOption o S R
none_map None P S Q R is f m = f m
none_map (Some x) P S Q R is f m = absurd (true≢false is)

pub cases_map : {A : Type 0} (o : Option A) (P S : Type 0) (Q R : A → Type 0) → (P → S) → ((x : A) → Q x → R x) → MatchOption o P Q → MatchOption o S R
cases_map None P S Q R f g h = f h
cases_map (Some x) P S Q R f g h = g x h

pub fits_flipped : (ns : List Node) (v h l : ℕ) → v < 4096 → h / 2 ≤ length ns → l / 2 ≤ length ns → v < top ns h → v < top ns l → (h % 2 ≡ 0 → ⊥) → (h ≡ l → ⊥) → Fits ns (length ns) (node v (flip h) (flip l))
fits_flipped ns v h l b hin lin hl ll odd ne = record {
  high_back = omega (arith, flip_half h);
  low_back = omega (arith, flip_half l);
  high_later = subst (λ j. v < var_at ns j) (sym (flip_half h)) hl;
  low_later = subst (λ j. v < var_at ns j) (sym (flip_half l)) ll;
  straight = omega arith;
  differ = λ e. ne (omega arith);
  bounded = b;
}
