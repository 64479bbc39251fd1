-- The buckets of the nodes, and the cache.
use Rattle.std.proofs.Common.{◌≡◌, ℕ, ◌+◌, ◌-◌, ◌/◌, ◌<◌, ◌≤◌, ◌&&◌, List, [], ◌∷◌, ◌++◌, length, get_or, set, sym, refl, ap, ◌∙◌, subst, ap₂, ⊎_elim, arith, length-append, length-set}
use Rattle.std.proofs.lemmas.List.{get_or_append_left, get_or_push, get_or-set_same, get_or-set_other}
use Rattle.std.proofs.lemmas.Bool.{cases_eq, cases_lt}
use Rattle.bdd.specs.declared.store.nodes.Node.{Node}
use Rattle.bdd.specs.declared.store.cache.Entry.{Entry}
use Rattle.bdd.specs.Diagram.{node, node_at, Fits, Good, Grown}
use Rattle.bdd.specs.Steps.{Both}
use Rattle.bdd.specs.Caching.{KnownAfter, AllRight, Right}
use Rattle.bdd.specs.Index.{LinkedBy, bucket_of}
use Rattle.bdd.proofs.Values.{eval_kept, var_kept, grown_push}

pub both_kept : (ns ms : List Node) (f g r : ℕ) → Good ns → Grown ns ms → f / 2 ≤ length ns → g / 2 ≤ length ns → Both ns ns f g r → Both ms ms f g r
both_kept ns ms f g r good grown inf ing b =
    let longer = grown.longer in
    let inr' = b.inside in
    record {
      inside = omega arith;
      first = λ v hf hg.
          let atf = var_kept ns ms (f / 2) grown inf in
          let atg = var_kept ns ms (g / 2) grown ing in
          let atr = var_kept ns ms (r / 2) grown b.inside in
          let m = b.first v (omega arith) (omega arith) in
          omega arith;
      value_is = λ ρ. eval_kept ns ms ρ r good grown b.inside ∙ b.value_is ρ ∙ sym (ap₂ ◌&&◌ (eval_kept ns ms ρ f good grown inf) (eval_kept ns ms ρ g good grown ing));
    }

pub both_up : (ns ms : List Node) (f g r : ℕ) → Good ns → Grown ns ms → f / 2 ≤ length ns → g / 2 ≤ length ns → Both ns ms f g r → Both ms ms f g r
both_up ns ms f g r good grown inf ing b =
    record {
      inside = b.inside;
      first = λ v hf hg.
          let atf = var_kept ns ms (f / 2) grown inf in
          let atg = var_kept ns ms (g / 2) grown ing in
          b.first v (omega arith) (omega arith);
      value_is = λ ρ. b.value_is ρ ∙ sym (ap₂ ◌&&◌ (eval_kept ns ms ρ f good grown inf) (eval_kept ns ms ρ g good grown ing));
    }

pub right_up : (ns ms : List Node) (f g r : ℕ) → Good ns → Grown ns ms → f / 2 ≤ length ns → g / 2 ≤ length ns → Both ns ms f g r → Right ms f g r
right_up ns ms f g r good grown inf ing b =
    let longer = grown.longer in
    record { f_inside = omega arith; g_inside = omega arith; both = both_up ns ms f g r good grown inf ing b }

pub right_kept : (ns ms : List Node) (f g r : ℕ) → Good ns → Grown ns ms → Right ns f g r → Right ms f g r
right_kept ns ms f g r good grown right =
    let longer = grown.longer in
    let a = right.f_inside in
    let b = right.g_inside in
    record { f_inside = omega arith; g_inside = omega arith; both = both_kept ns ms f g r good grown right.f_inside right.g_inside right.both }

-- what is right stays so when nodes are added
pub all_right_kept : (ns ms : List Node) (es : List Entry) (stamp : ℕ) → Good ns → Grown ns ms → AllRight ns es stamp → AllRight ms es stamp
all_right_kept ns ms es stamp good grown all f g r known = right_kept ns ms f g r good grown (all f g r known)

-- and when a conjunction is remembered that is right
pub all_right_after : (ns : List Node) (old new : List Entry) (stamp f g r : ℕ) → KnownAfter old new stamp f g r → Right ns f g r → AllRight ns old stamp → AllRight ns new stamp
all_right_after ns old new stamp f g r after right all f' g' r' known = ⊎_elim
    (λ before. all f' g' r' before)
    (λ is. subst (λ x. Right ns x g' r') (sym is.0) (subst (λ x. Right ns f x r') (sym is.1) (subst (λ x. Right ns f g x) (sym is.2) right)))
    (after f' g' r' known)

module _ (m : ℕ) (ns : List Node) (next heads : List ℕ) (n : Node) (l : LinkedBy m ns next heads) where
  pub linked_push : bucket_of m n < m → LinkedBy m (ns ++ n ∷ []) (next ++ get_or heads (bucket_of m n) 0 ∷ []) (set heads (bucket_of m n) (length ns + 1))
  linked_push within =
      let b : ℕ = bucket_of m n in
      let ms : List Node = ns ++ n ∷ [] in
      let h : ℕ = get_or heads b 0 in
      let nx : List ℕ = next ++ h ∷ [] in
      let hs : List ℕ = set heads b (length ns + 1) in
      let g : Grown ns ms = grown_push ns n in
      let long : length ms ≡ length ns + 1 = simp length-append in
      let wide = l.wide in
      let last : node_at ms (length ns) ≡ n = get_or_push ns n (node 0 0 0) (length ns) refl in
      let last_next : get_or nx (length ns) 0 ≡ h = get_or_push next h 0 (length ns) l.long in
      let old_next : (j : ℕ) → j < length ns → get_or nx j 0 ≡ get_or next j 0 = λ j lt. let nl = l.long in get_or_append_left next (h ∷ []) 0 j (omega arith) in
      let here : get_or hs b 0 ≡ length ns + 1 = get_or-set_same heads b (length ns + 1) 0 (omega arith) in
      let other : (c : ℕ) → (c ≡ b → ⊥) → get_or hs c 0 ≡ get_or heads c 0 = λ c ne. get_or-set_other heads b c (length ns + 1) 0 ne in
      let old : (i : ℕ) → i < length ns → bucket_of m (node_at ms i) ≡ bucket_of m (node_at ns i) = λ i lt. ap (bucket_of m) (g.kept i lt) in
      let new : bucket_of m (node_at ms (length ns)) ≡ b = ap (bucket_of m) last in
      record {
        wide = simp length-set wide;
        some = l.some;
        long = let nl = l.long in simp length-append (omega arith);
        head_within = λ c lt. ⊎_elim
            (λ e. subst (λ x. get_or hs x 0 ≤ length ms) (sym e) (omega (arith, here)))
            (λ ne. let w = l.head_within c lt in omega (arith, other c ne))
            (cases_eq c b);
        head_same = λ c lt pos. ⊎_elim
            (λ e.
            let at : get_or hs c 0 - 1 ≡ length ns = omega (arith, ap (λ x. get_or hs x 0) e, here) in
            ap (λ i. bucket_of m (node_at ms i)) at ∙ new ∙ sym e)
            (λ ne.
            let eq = other c ne in
            let w = l.head_within c lt in
            let at : get_or hs c 0 - 1 ≡ get_or heads c 0 - 1 = omega arith in
            ap (λ i. bucket_of m (node_at ms i)) at ∙ old (get_or heads c 0 - 1) (omega arith) ∙ l.head_same c lt (omega arith))
            (cases_eq c b);
        head_past = λ i lt. ⊎_elim
            (λ lti. subst (λ c. i < get_or hs c 0) (sym (old i lti)) (⊎_elim
            (λ e. subst (λ c. i < get_or hs c 0) (sym e) (omega (arith, here)))
            (λ ne. omega (arith, other (bucket_of m (node_at ns i)) ne, l.head_past i lti))
            (cases_eq (bucket_of m (node_at ns i)) b)))
            (λ le.
            let is : i ≡ length ns = omega arith in
            subst (λ c. i < get_or hs c 0) (sym (ap (λ x. bucket_of m (node_at ms x)) is ∙ new)) (omega (arith, here)))
            (cases_lt i (length ns));
        next_back = λ j lt. ⊎_elim
            (λ ltj. omega (arith, old_next j ltj, l.next_back j ltj))
            (λ le.
            let is : j ≡ length ns = omega arith in
            omega (arith, ap (λ x. get_or nx x 0) is, last_next, l.head_within b within))
            (cases_lt j (length ns));
        next_same = λ j lt pos. ⊎_elim
            (λ ltj.
            let eq = old_next j ltj in
            let back = l.next_back j ltj in
            let at : get_or nx j 0 - 1 ≡ get_or next j 0 - 1 = omega arith in
            ap (λ i. bucket_of m (node_at ms i)) at ∙ old (get_or next j 0 - 1) (omega arith) ∙ l.next_same j ltj (omega arith) ∙ sym (old j ltj))
            (λ le.
            let is : j ≡ length ns = omega arith in
            let eq : get_or nx j 0 ≡ h = ap (λ x. get_or nx x 0) is ∙ last_next in
            let w = l.head_within b within in
            let at : get_or nx j 0 - 1 ≡ h - 1 = omega arith in
            ap (λ i. bucket_of m (node_at ms i)) at ∙ old (h - 1) (omega arith) ∙ l.head_same b within (omega arith) ∙ sym (ap (λ x. bucket_of m (node_at ms x)) is ∙ new))
            (cases_lt j (length ns));
        next_past = λ i j ij lt same. ⊎_elim
            (λ ltj.
            let lti : i < length ns = omega arith in
            omega (arith, old_next j ltj, l.next_past i j ij ltj (sym (old i lti) ∙ same ∙ old j ltj)))
            (λ le.
            let is : j ≡ length ns = omega arith in
            let lti : i < length ns = omega arith in
            let eq : get_or nx j 0 ≡ h = ap (λ x. get_or nx x 0) is ∙ last_next in
            let at : bucket_of m (node_at ns i) ≡ b = sym (old i lti) ∙ same ∙ ap (λ x. bucket_of m (node_at ms x)) is ∙ new in
            omega (arith, eq, subst (λ c. i < get_or heads c 0) at (l.head_past i lti)))
            (cases_lt j (length ns));
      }

-- a table without its last node
pub good_pop : (ns : List Node) (n : Node) → Good (ns ++ n ∷ []) → Good ns
good_pop ns n good =
    let ms : List Node = ns ++ n ∷ [] in
    let g : Grown ns ms = grown_push ns n in
    let long : length ms ≡ length ns + 1 = simp length-append in
    record {
      fits = λ i lt.
          let f : Fits ms i (node_at ns i) = subst (Fits ms i) (g.kept i lt) (good.fits i (omega arith)) in
          let c : Node = node_at ns i in
          let hb = f.high_back in
          let lb = f.low_back in
          record {
            high_back = hb;
            low_back = lb;
            high_later = subst (λ w. c.var < w) (var_kept ns ms (c.high / 2) g (omega arith)) f.high_later;
            low_later = subst (λ w. c.var < w) (var_kept ns ms (c.low / 2) g (omega arith)) f.low_later;
            straight = f.straight;
            differ = f.differ;
            bounded = f.bounded;
          };
      apart = λ i j hi hj e. good.apart i j (omega arith) (omega arith) (g.kept i hi ∙ e ∙ sym (g.kept j hj));
    }

pub linked_pop : (m : ℕ) (ns : List Node) (next heads : List ℕ) (n : Node) (x : ℕ) → LinkedBy m (ns ++ n ∷ []) (next ++ x ∷ []) heads → length next ≡ length ns → bucket_of m n < m → LinkedBy m ns next (set heads (bucket_of m n) x)
linked_pop m ns next heads n x l nl within =
    let b : ℕ = bucket_of m n in
    let ms : List Node = ns ++ n ∷ [] in
    let nx : List ℕ = next ++ x ∷ [] in
    let hs : List ℕ = set heads b x in
    let L : ℕ = length ns in
    let g : Grown ns ms = grown_push ns n in
    let long : length ms ≡ L + 1 = simp length-append in
    let wide = l.wide in
    let last : node_at ms L ≡ n = get_or_push ns n (node 0 0 0) L refl in
    let last_next : get_or nx L 0 ≡ x = get_or_push next x 0 L nl in
    let old_next : (j : ℕ) → j < L → get_or nx j 0 ≡ get_or next j 0 = λ j lt. get_or_append_left next (x ∷ []) 0 j (omega arith) in
    let here : get_or hs b 0 ≡ x = get_or-set_same heads b x 0 (omega arith) in
    let other : (c : ℕ) → (c ≡ b → ⊥) → get_or hs c 0 ≡ get_or heads c 0 = λ c ne. get_or-set_other heads b c x 0 ne in
    let old : (i : ℕ) → i < L → bucket_of m (node_at ms i) ≡ bucket_of m (node_at ns i) = λ i lt. ap (bucket_of m) (g.kept i lt) in
    let new : bucket_of m (node_at ms L) ≡ b = ap (bucket_of m) last in
    let x_back : x ≤ L = omega (arith, l.next_back L (omega arith), last_next) in
    -- another bucket does not begin with the last node
    let not_last : (c : ℕ) → c < m → (c ≡ b → ⊥) → get_or heads c 0 ≤ L = λ c lt ne. ⊎_elim
    (λ lt'. omega arith)
    (λ ge.
    let w = l.head_within c lt in
    let at : get_or heads c 0 - 1 ≡ L = omega arith in
    absurd (ne (sym (l.head_same c lt (omega arith)) ∙ ap (λ i. bucket_of m (node_at ms i)) at ∙ new)))
    (cases_lt (get_or heads c 0) (L + 1)) in
    record {
      wide = simp length-set wide;
      some = l.some;
      long = nl;
      head_within = λ c lt. ⊎_elim
          (λ e. subst (λ y. get_or hs y 0 ≤ L) (sym e) (omega (arith, here)))
          (λ ne. omega (arith, other c ne, not_last c lt ne))
          (cases_eq c b);
      head_same = λ c lt pos. ⊎_elim
          (λ e.
          let eq : get_or hs c 0 ≡ x = ap (λ y. get_or hs y 0) e ∙ here in
          let at : get_or hs c 0 - 1 ≡ get_or nx L 0 - 1 = omega arith in
          let in_ns : get_or nx L 0 - 1 < L = omega arith in
          ap (λ i. bucket_of m (node_at ns i)) at ∙ sym (old (get_or nx L 0 - 1) in_ns) ∙ l.next_same L (omega arith) (omega arith) ∙ new ∙ sym e)
          (λ ne.
          let eq = other c ne in
          let w = not_last c lt ne in
          let at : get_or hs c 0 - 1 ≡ get_or heads c 0 - 1 = omega arith in
          ap (λ i. bucket_of m (node_at ns i)) at ∙ sym (old (get_or heads c 0 - 1) (omega arith)) ∙ l.head_same c lt (omega arith))
          (cases_eq c b);
      head_past = λ i lt. ⊎_elim
          (λ e. subst (λ c. i < get_or hs c 0) (sym e) (omega (arith, here, last_next, l.next_past i L lt (omega arith) (old i lt ∙ e ∙ sym new))))
          (λ ne. omega (arith, other (bucket_of m (node_at ns i)) ne, subst (λ c. i < get_or heads c 0) (old i lt) (l.head_past i (omega arith))))
          (cases_eq (bucket_of m (node_at ns i)) b);
      next_back = λ j lt. omega (arith, old_next j lt, l.next_back j (omega arith));
      next_same = λ j lt pos.
          let eq = old_next j lt in
          let back = l.next_back j (omega arith) in
          let at : get_or next j 0 - 1 ≡ get_or nx j 0 - 1 = omega arith in
          ap (λ i. bucket_of m (node_at ns i)) at ∙ sym (old (get_or nx j 0 - 1) (omega arith)) ∙ l.next_same j (omega arith) (omega arith) ∙ old j lt;
      next_past = λ i j ij lt same. omega (arith, old_next j lt, l.next_past i j ij (omega arith) (old i (omega arith) ∙ same ∙ sym (old j lt)));
    }
