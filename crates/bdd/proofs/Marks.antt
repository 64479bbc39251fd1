-- As many nodes are marked as the function has parts.
use Rattle.std.proofs.Common.{◌≡◌, take, ℕ, zero, suc, ◌+◌, ◌-◌, ◌*◌, ◌/◌, ◌<◌, ◌≤◌, Bool, true, false, cond, ◌||◌, eqb, ◌⊎◌, List, [], ◌∷◌, ◌++◌, length, sym, refl, ap, ◌∙◌, subst, ap₂, inl, inr, ⊎_elim, arith}
use Rattle.std.specs.List.{count_by}
use Rattle.std.proofs.lemmas.List.Sums.{count_by_more_yes, count_by_more_no}
use mathlib.Core.Path.{fun_ext}
use Rattle.std.proofs.lemmas.Bool.{cases_Bool, cases_lt, cases_eq, lt-ltb, le-ltb, eq-eqb, ne_eqb, both_ways, or_left, or_right}
use Rattle.bdd.specs.declared.store.nodes.Node.{Node}
use Rattle.bdd.specs.Diagram.{node_at, turned, inverted, eval, var_at, top, Good, turn}
use Rattle.bdd.specs.Size.{Fn, one, fork, same, opposite, known, parts, distinct, table, size_of, In, Above, Ascending, Only}
use Rattle.bdd.specs.Laws.{Inputs}
use Rattle.bdd.specs.Marking.{at, Marked, Marks}
use Rattle.bdd.proofs.Values.{turn_half, cofactor_here, inner}
use Rattle.bdd.proofs.Growth.{straight_of, turned_twice}
use Rattle.bdd.proofs.Canon.{upd, upd_at, upd_other}
use Rattle.bdd.proofs.Pigeons.{same_of, Near, Known, known_is, known_near, near_on, near_sym, near_or_not}
use Rattle.bdd.proofs.Tables.{on, on_in, on_out, after, above_in, eval_only, opposite_table}
use Rattle.bdd.proofs.Counting.{table_of, known_own, near_own}

-- m without k
abbrev without : ℕ → (ℕ → Bool) → ℕ → Bool
without k m j = cond (eqb j k) false (m j)

without_other : (k : ℕ) (m : ℕ → Bool) (j : ℕ) → (j ≡ k → ⊥) → without k m j ≡ m j
without_other k m j h = ap (λ b. cond b false (m j)) (ne_eqb j k h)

without_own : (k : ℕ) (m : ℕ → Bool) → without k m k ≡ false
without_own k m = ap (λ b. cond b false (m k)) (eq-eqb k k refl)

without_true : (k : ℕ) (m : ℕ → Bool) (j : ℕ) → without k m j ≡ true → (m j ≡ true) × (j ≡ k → ⊥)
without_true k m j h = ⊎_elim
    (λ e. absurd (both_ways (without k m j) (ap (without k m) e ∙ without_own k m) h))
    (λ ne. (sym (without_other k m j ne) ∙ h, ne))
    (cases_eq j k)

abbrev bit : Bool → ℕ
bit true = 1
bit false = 0

-- how many of d numbers from i on pass
abbrev pub tally : (ℕ → Bool) → ℕ → ℕ → ℕ
tally m i zero = 0
tally m i (suc d) = bit (m i) + tally m (suc i) d

tally_last : (m : ℕ → Bool) (i d : ℕ) → tally m i (suc d) ≡ tally m i d + bit (m (i + d))
tally_last m i zero = let up : i + 0 ≡ i = omega arith in let own : bit (m (i + 0)) ≡ bit (m i) = ap (λ k. bit (m k)) up in omega arith
tally_last m i (suc d) =
    let up : suc i + d ≡ i + suc d = omega arith in
    let own : bit (m (suc i + d)) ≡ bit (m (i + suc d)) = ap (λ k. bit (m k)) up in
    omega (arith, tally_last m (suc i) d)

-- counting the marks of a list is counting those of its places
pub count_tally : (ms : List Bool) (n : ℕ) → n ≤ length ms → count_by (λ b. b) (take n ms) ≡ tally (at ms) 0 n
count_tally ms zero le = refl
count_tally ms (suc n) le =
    let up : suc n ≡ n + 1 = omega arith in
    let one : count_by (λ b. b) (take (suc n) ms) ≡ count_by (λ b. b) (take (n + 1) ms) = ap (λ k. count_by (λ b. b) (take k ms)) up in
    let before = count_tally ms n (omega arith) in
    let more = tally_last (at ms) 0 n in
    let here : 0 + n ≡ n = omega arith in
    ⊎_elim
    (λ t. let h = count_by_more_yes (λ b. b) ms n false (omega arith) t in let b : bit (at ms (0 + n)) ≡ 1 = ap (λ k. bit (at ms k)) here ∙ ap bit t in omega arith)
    (λ f. let h = count_by_more_no (λ b. b) ms n false (omega arith) f in let b : bit (at ms (0 + n)) ≡ 0 = ap (λ k. bit (at ms k)) here ∙ ap bit f in omega arith)
    (cases_Bool (at ms n))

tally_past : (k : ℕ) (m : ℕ → Bool) (i d : ℕ) → k < i → tally (without k m) i d ≡ tally m i d
tally_past k m i zero lt = refl
tally_past k m i (suc d) lt = ap₂ ◌+◌ (ap bit (without_other k m i (omega arith))) (tally_past k m (suc i) d (omega arith))

tally_without : (k : ℕ) (m : ℕ → Bool) (i d : ℕ) → i ≤ k → k < i + d → m k ≡ true → tally m i d ≡ suc (tally (without k m) i d)
tally_without k m i zero le lt t = absurd (omega arith)
tally_without k m i (suc d) le lt t = ⊎_elim
    (λ e.
    let own : bit (m i) ≡ 1 = ap bit (ap m e ∙ t) in
    let gone : bit (without k m i) ≡ 0 = ap bit (ap (without k m) e ∙ without_own k m) in
    omega (arith, tally_past k m (suc i) d (omega arith)))
    (λ ne.
    let own : bit (without k m i) ≡ bit (m i) = ap bit (without_other k m i ne) in
    omega (arith, tally_without k m (suc i) d (omega arith) (omega arith) t))
    (cases_eq i k)

tally_zero : (m : ℕ → Bool) (i d : ℕ) → ((k : ℕ) → i ≤ k → k < i + d → m k ≡ true → ⊥) → tally m i d ≡ 0
tally_zero m i zero none = refl
tally_zero m i (suc d) none = ⊎_elim
    (λ t. absurd (none i (omega arith) (omega arith) t))
    (λ f. let own : bit (m i) ≡ 0 = ap bit f in omega (arith, tally_zero m (suc i) d (λ k a b. none k (omega arith) (omega arith))))
    (cases_Bool (m i))

find_mark : (T : ℕ → Fn) (u : Fn) (m : ℕ → Bool) (n : ℕ) → ((i : ℕ) × (i < n) × (m i ≡ true) × Near (T i) u) ⊎ ((i : ℕ) → i < n → m i ≡ true → Near (T i) u → ⊥)
find_mark T u m zero = inr (λ i h. absurd (omega arith))
find_mark T u m (suc n) = ⊎_elim
    (λ p. let h = p.1 in inl (p.0, omega arith, p.2, p.3))
    (λ none. ⊎_elim
    (λ near. ⊎_elim
    (λ t. inl (n, omega arith, t, near))
    (λ f. inr (λ i h. ⊎_elim (λ e t q. both_ways (m i) (ap m e ∙ f) t) (λ ne. none i (omega arith)) (cases_eq i n)))
    (cases_Bool (m n)))
    (λ far. inr (λ i h. ⊎_elim (λ e t q. far (subst (λ k. Near (T k) u) e q)) (λ ne. none i (omega arith)) (cases_eq i n)))
    (near_or_not (T n) u))
    (find_mark T u m n)

pub distinct_known : (u : Fn) (us : List Fn) → known u us ≡ true → distinct (u ∷ us) ≡ distinct us
distinct_known u us h = ap (λ b. cond b (distinct us) (suc (distinct us))) h

distinct_new : (u : Fn) (us : List Fn) → known u us ≡ false → distinct (u ∷ us) ≡ suc (distinct us)
distinct_new u us h = ap (λ b. cond b (distinct us) (suc (distinct us))) h

pub known_of : (t : Fn) (us : List Fn) → Known t us → known t us ≡ true
known_of t [] k = absurd k
known_of t (u ∷ us) (inl (inl e)) = or_left (same t u) (same t (opposite u) || known t us) (same_of t u e)
known_of t (u ∷ us) (inl (inr e)) = or_right (same t u) (same t (opposite u) || known t us) (or_left (same t (opposite u)) (known t us) (same_of t (opposite u) e))
known_of t (u ∷ us) (inr k) = or_right (same t u) (same t (opposite u) || known t us) (or_right (same t (opposite u)) (known t us) (known_of t us k))

-- the marked are no more than those that count in the list
marked_fit : (us : List Fn) (n : ℕ) (m : ℕ → Bool) (T : ℕ → Fn) → ((i : ℕ) → i < n → m i ≡ true → Known (T i) us) → ((i j : ℕ) → i < n → j < n → Near (T i) (T j) → i ≡ j) → tally m 0 n ≤ distinct us
marked_fit [] n m T k a = let z = tally_zero m 0 n (λ i le lt t. k i (omega arith) t) in omega arith
marked_fit (u ∷ us) n m T k a = ⊎_elim
    (λ old.
    let ih = marked_fit us n m T (λ i h t. ⊎_elim (λ near. known_near (T i) u us near (known_is u us old)) (λ q. q) (k i h t)) a in
    omega (arith, distinct_known u us old))
    (λ new. ⊎_elim
    (λ p.
    let i : ℕ = p.0 in
    let lt = p.1 in
    let ih = marked_fit us n (without i m) T
    (λ j h t.
    let w = without_true i m j t in
    ⊎_elim (λ near. absurd (w.1 (a j i h p.1 (near_on (T j) u (T i) near (near_sym (T i) u p.3))))) (λ q. q) (k j h w.0))
    a in
    omega (arith, distinct_new u us new, tally_without i m 0 n (omega arith) (omega arith) p.2))
    (λ none.
    let ih = marked_fit us n m T (λ i h t. ⊎_elim (λ near. absurd (none i h t near)) (λ q. q) (k i h t)) a in
    omega (arith, distinct_new u us new))
    (find_mark T u m n))
    (cases_Bool (known u us))

-- each of the list is one of the marked
abbrev pub Covered : (ℕ → Fn) → (ℕ → Bool) → ℕ → List Fn → Type 0
Covered T m n [] = Unit {0}
Covered T m n (u ∷ us) = ((i : ℕ) × (i < n) × (m i ≡ true) × Near u (T i)) × Covered T m n us

covered-++ : (T : ℕ → Fn) (m : ℕ → Bool) (n : ℕ) (us ws : List Fn) → Covered T m n us → Covered T m n ws → Covered T m n (us ++ ws)
covered-++ T m n [] ws c d = d
covered-++ T m n (u ∷ us) ws c d = (c.0, covered-++ T m n us ws c.1 d)

covered_without : (T : ℕ → Fn) (m : ℕ → Bool) (n k : ℕ) (u : Fn) (us : List Fn) → Near u (T k) → (Known u us → ⊥) → Covered T m n us → Covered T (without k m) n us
covered_without T m n k u [] near new c = tt
covered_without T m n k u (w ∷ us) near new c =
    let p = c.0 in
    let i : ℕ = p.0 in
    let ne : i ≡ k → ⊥ = λ e. new (inl (near_on u (T k) w near (near_sym w (T k) (subst (λ j. Near w (T j)) e p.3)))) in
    ((i, p.1, without_other k m i ne ∙ p.2, p.3), covered_without T m n k u us near (λ q. new (inr q)) c.1)

covered_fit : (us : List Fn) (n : ℕ) (m : ℕ → Bool) (T : ℕ → Fn) → Covered T m n us → distinct us ≤ tally m 0 n
covered_fit [] n m T c = omega arith
covered_fit (u ∷ us) n m T c = ⊎_elim
    (λ old. let ih = covered_fit us n m T c.1 in omega (arith, distinct_known u us old))
    (λ new.
    let p = c.0 in
    let lt = p.1 in
    let fresh : Known u us → ⊥ = λ q. both_ways (known u us) new (known_of u us q) in
    let ih = covered_fit us n (without p.0 m) T (covered_without T m n p.0 u us p.3 fresh c.1) in
    omega (arith, distinct_new u us new, tally_without p.0 m 0 n (omega arith) (omega arith) p.2))
    (cases_Bool (known u us))

marked_like : (m : ℕ → Bool) (j k : ℕ) → j ≡ k → Marked m k → Marked m j
marked_like m j k e h = subst (Marked m) (sym e) h

after_own : (v : ℕ) (vs : List ℕ) → after v (v ∷ vs) ≡ v ∷ vs
after_own v vs = ap (λ b. cond b (after v vs) (v ∷ vs)) (le-ltb v v (omega arith))

after_later : (v w : ℕ) (vs : List ℕ) → v < w → after w (v ∷ vs) ≡ after w vs
after_later v w vs lt = ap (λ b. cond b (after w vs) (v ∷ vs)) (lt-ltb v w lt)

on_like : (ws : List ℕ) (τ τ' ρ : ℕ → Bool) → ((u : ℕ) → In u ws → τ u ≡ τ' u) → on ws τ ρ ≡ on ws τ' ρ
on_like [] τ τ' ρ h = refl
on_like (v ∷ ws) τ τ' ρ h = ap (λ b. on ws τ (upd ρ v b)) (h v (inl refl)) ∙ on_like ws τ τ' (upd ρ v (τ' v)) (λ u k. h u (inr k))

-- tables of functions that agree on the inputs are equal
table_ext : (ws : List ℕ) (φ ψ : (ℕ → Bool) → Bool) (ρ ρ' : ℕ → Bool) → Ascending ws → ((τ : ℕ → Bool) → φ (on ws τ ρ) ≡ ψ (on ws τ ρ')) → table ws φ ρ ≡ table ws ψ ρ'
table_ext [] φ ψ ρ ρ' a h = ap one (h (λ _. false))
table_ext (v ∷ ws) φ ψ ρ ρ' a h =
    let half : (b : Bool) (τ : ℕ → Bool) → φ (on ws τ (upd ρ v b)) ≡ ψ (on ws τ (upd ρ' v b)) = λ b τ.
    let τ' : ℕ → Bool = upd τ v b in
    let same : (u : ℕ) → In u ws → τ u ≡ τ' u = λ u k. let l = above_in v ws u a.0 k in sym (upd_other τ v b u (omega arith)) in
    let back : (ρ₂ : ℕ → Bool) → on ws τ (upd ρ₂ v b) ≡ on ws τ' (upd ρ₂ v (τ' v)) = λ ρ₂. ap (λ c. on ws τ (upd ρ₂ v c)) (sym (upd_at τ v b)) ∙ on_like ws τ τ' (upd ρ₂ v (τ' v)) same in
    ap φ (back ρ) ∙ h τ' ∙ sym (ap ψ (back ρ')) in
    ap₂ fork (table_ext ws φ ψ (upd ρ v true) (upd ρ' v true) a.1 (half true)) (table_ext ws φ ψ (upd ρ v false) (upd ρ' v false) a.1 (half false))

module _ (ns : List Node) (good : Good ns) (vs : List ℕ) (asc : Ascending vs) (vars : Inputs ns vs) (e₀ n : ℕ) (m : ℕ → Bool) (inside_n : n ≤ length ns) (marks : Marks ns e₀ n 0 m) where
  abbrev Rel : List ℕ → ℕ → Type 0
  Rel ws e = (j : ℕ) → j < length ns → top ns e ≤ (node_at ns j).var → In (node_at ns j).var ws

  abbrev Tail : List ℕ → Type 0
  Tail ws = (w : ℕ) → In w ws → after w vs ≡ after w ws

  edge_on : (ws : List ℕ) (e : ℕ) (τ ρ : ℕ → Bool) → e / 2 ≤ length ns → Rel ws e → eval ns (on ws τ ρ) e ≡ eval ns τ e
  edge_on ws e τ ρ inside rel = eval_only ns (on ws τ ρ) τ (top ns e) e good (λ j h le. on_in ws τ ρ (node_at ns j).var (rel j h le)) inside (omega arith)

  -- the table of an edge is that of its node, or its opposite
  near_edge : (v : ℕ) (ws : List ℕ) (e k : ℕ) (ρ : ℕ → Bool) → e / 2 ≤ length ns → e / 2 ≡ k + 1 → (node_at ns k).var ≡ v → Ascending (v ∷ ws) → Rel (v ∷ ws) e → after v vs ≡ v ∷ ws
      → Near (table (v ∷ ws) (λ τ. eval ns τ e) ρ) (table_of ns good vs asc vars k)
  unfolding table_of
  near_edge v ws e k ρ inside is at a rel tail =
      let ε : (ℕ → Bool) → Bool = λ τ. eval ns τ (2 * (k + 1)) in
      let own : table_of ns good vs asc vars k ≡ table (v ∷ ws) ε (λ _. false) = ap (λ x. table (after x vs) ε (λ _. false)) at ∙ ap (λ x. table x ε (λ _. false)) tail in
      let half : e / 2 ≡ 2 * (k + 1) / 2 = omega arith in
      let rel' : Rel (v ∷ ws) (2 * (k + 1)) = λ j h le. rel j h (subst (λ i. var_at ns i ≤ (node_at ns j).var) (sym half) le) in
      let value_is : (τ : ℕ → Bool) → eval ns τ e ≡ turned (inverted e) (ε τ) = λ τ. sym (ap (turned (inverted e)) (straight_of ns τ e k is) ∙ turned_twice (inverted e) (eval ns τ e)) in
      let same : table (v ∷ ws) ε ρ ≡ table (v ∷ ws) ε (λ _. false) = table_ext (v ∷ ws) ε ε ρ (λ _. false) a (λ τ.
      edge_on (v ∷ ws) (2 * (k + 1)) τ ρ (omega arith) rel' ∙ sym (edge_on (v ∷ ws) (2 * (k + 1)) τ (λ _. false) (omega arith) rel')) in
      let first : table (v ∷ ws) (λ τ. eval ns τ e) ρ ≡ table (v ∷ ws) (λ τ. turned (inverted e) (ε τ)) ρ = ap (λ φ. table (v ∷ ws) φ ρ) (fun_ext value_is) in
      let P : Bool → Type 0 = λ b. table (v ∷ ws) (λ τ. eval ns τ e) ρ ≡ table (v ∷ ws) (λ τ. turned b (ε τ)) ρ → Near (table (v ∷ ws) (λ τ. eval ns τ e) ρ) (table_of ns good vs asc vars k) in
      let both : P (inverted e) = elim (inverted e) as P [
        | true ↦ λ q. inr (q ∙ sym (opposite_table (v ∷ ws) ε ρ) ∙ ap opposite (same ∙ sym own))
        | false ↦ λ q. inl (q ∙ same ∙ sym own)
      ] in
      both first

  later_in : (v : ℕ) (ws : List ℕ) (u : ℕ) → In u (v ∷ ws) → (u ≡ v → ⊥) → In u ws
  later_in v ws u (inl e) ne = absurd (ne e)
  later_in v ws u (inr k) ne = k

  tail_on : (v : ℕ) (ws : List ℕ) → Above v ws → Tail (v ∷ ws) → Tail ws
  tail_on v ws a t w k = t w (inr k) ∙ after_later v w ws (above_in v ws w a k)

  pub cover : (ws : List ℕ) (e : ℕ) (ρ : ℕ → Bool) → e / 2 ≤ n → Marked m (e / 2) → Ascending ws → Rel ws e → Tail ws → Covered (table_of ns good vs asc vars) m n (parts (table ws (λ τ. eval ns τ e) ρ))
  cover [] e ρ inside mk a rel tail = tt
  cover (v ∷ ws) e ρ inside mk a rel tail =
      let T : ℕ → Fn = table_of ns good vs asc vars in
      let ε : (ℕ → Bool) → Bool = λ τ. eval ns τ e in
      let x : Fn = table ws ε (upd ρ v true) in
      let y : Fn = table ws ε (upd ρ v false) in
      let in_ns : e / 2 ≤ length ns = omega arith in
      let tail' : Tail ws = tail_on v ws a.0 tail in
      -- v is not looked at
      let skip : ((j : ℕ) → j < length ns → top ns e ≤ (node_at ns j).var → (node_at ns j).var ≡ v → ⊥) → Covered T m n (parts (fork x y)) = λ none.
      let rel' : Rel ws e = λ j h le. later_in v ws (node_at ns j).var (rel j h le) (none j h le) in
      let equal : x ≡ y = table_ext ws ε ε (upd ρ v true) (upd ρ v false) a.1 (λ τ. edge_on ws e τ (upd ρ v true) in_ns rel' ∙ sym (edge_on ws e τ (upd ρ v false) in_ns rel')) in
      subst (λ b. Covered T m n (cond b [] (fork x y ∷ []) ++ (parts x ++ parts y))) (sym (same_of x y equal))
      (covered-++ T m n (parts x) (parts y) (cover ws e (upd ρ v true) inside mk a.1 rel' tail') (cover ws e (upd ρ v false) inside mk a.1 rel' tail')) in
      -- v is the edge's own input
      let own : top ns e ≡ v → v < 4096 → Covered T m n (parts (fork x y)) = λ at lt.
      let k : ℕ = e / 2 - 1 in
      let is = inner ns (e / 2) v at lt in
      let is0 = is.0 in
      let nk : k < length ns = omega arith in
      let marked : m k ≡ true = subst (Marked m) is.0 mk in
      let c : Node = node_at ns k in
      let ch = cofactor_here ns e v k (turn e c.high) true good is.0 nk is.1 refl in
      let cl = cofactor_here ns e v k (turn e c.low) false good is.0 nk is.1 refl in
      let hd = ch.deeper at in
      let ld = cl.deeper at in
      let kn : k < n = omega arith in
      let closed = marks.closed k (omega arith) kn marked in
      let rel_to : (r : ℕ) → v < top ns r → Rel ws r = λ r l j h le. later_in v ws (node_at ns j).var (rel j h (omega arith)) (λ q. omega arith) in
      let own_in : In v ws → ⊥ = λ q. let l = above_in v ws v a.0 q in omega arith in
      let xs : x ≡ table ws (λ τ. eval ns τ (turn e c.high)) (upd ρ v true) = table_ext ws ε (λ τ. eval ns τ (turn e c.high)) (upd ρ v true) (upd ρ v true) a.1
      (λ τ. sym (ch.value_is (on ws τ (upd ρ v true)) (on_out ws τ (upd ρ v true) v own_in ∙ upd_at ρ v true))) in
      let ys : y ≡ table ws (λ τ. eval ns τ (turn e c.low)) (upd ρ v false) = table_ext ws ε (λ τ. eval ns τ (turn e c.low)) (upd ρ v false) (upd ρ v false) a.1
      (λ τ. sym (cl.value_is (on ws τ (upd ρ v false)) (on_out ws τ (upd ρ v false) v own_in ∙ upd_at ρ v false))) in
      let cx : Covered T m n (parts x) = subst (λ t. Covered T m n (parts t)) (sym xs)
      (cover ws (turn e c.high) (upd ρ v true) (omega arith) (marked_like m (turn e c.high / 2) (c.high / 2) (turn_half e c.high) closed.0) a.1 (rel_to (turn e c.high) ch.later) tail') in
      let cy : Covered T m n (parts y) = subst (λ t. Covered T m n (parts t)) (sym ys)
      (cover ws (turn e c.low) (upd ρ v false) (omega arith) (marked_like m (turn e c.low / 2) (c.low / 2) (turn_half e c.low) closed.1) a.1 (rel_to (turn e c.low) cl.later) tail') in
      let near : Near (fork x y) (T k) = near_edge v ws e k ρ in_ns (omega arith) is.1 a rel (tail v (inl refl) ∙ after_own v ws) in
      let this : Covered T m n (fork x y ∷ []) = ((k, kn, marked, near), tt) in
      covered-++ T m n (cond (same x y) [] (fork x y ∷ [])) (parts x ++ parts y)
      (elim (same x y) as (λ b. Covered T m n (cond b [] (fork x y ∷ []))) [ true ↦ tt | false ↦ this ])
      (covered-++ T m n (parts x) (parts y) cx cy) in
      ⊎_elim
      (λ lt.
      let i : ℕ = e / 2 - 1 in
      let is = inner ns (e / 2) (top ns e) refl lt in
      let is0 = is.0 in
      let is1 = is.1 in
      ⊎_elim
      (λ q. own (sym is.1 ∙ q) (omega arith))
      (λ q. let l = above_in v ws (node_at ns i).var a.0 q in skip (λ j h le eq. omega arith))
      (rel i (omega arith) (omega arith)))
      (λ ge. skip (λ j h le eq. let b = (good.fits j h).bounded in omega arith))
      (cases_lt (top ns e) 4096)

-- marks that are closed from the start on are as many as the function has parts
pub sizing : (ns : List Node) (vs : List ℕ) (e n : ℕ) (m : ℕ → Bool) → Good ns → Ascending vs → Inputs ns vs → e / 2 ≤ n → n ≤ length ns → Marks ns e n 0 m → tally m 0 n ≡ size_of vs (λ ρ. eval ns ρ e)
sizing ns vs e n m good asc vars inside-e inside_n marks =
    let ε : (ℕ → Bool) → Bool = λ ρ. eval ns ρ e in
    let T : ℕ → Fn = table_of ns good vs asc vars in
    let only : Only vs ε = λ ρ ρ' agree. eval_only ns ρ ρ' 0 e good (λ i h le. agree (node_at ns i).var (vars i h)) (omega arith) (omega arith) in
    let low = marked_fit (parts (table vs ε (λ _. false))) n m T
    (λ i h t. known_own ns good vs asc vars i ε (omega arith) only (marks.part i h t))
    (λ i j hi hj near. near_own ns good vs asc vars i j (omega arith) (omega arith) near) in
    let high = covered_fit (parts (table vs ε (λ _. false))) n m T
    (cover ns good vs asc vars e n m inside_n marks vs e (λ _. false) inside-e marks.root asc (λ j h le. vars j h) (λ w k. refl)) in
    omega arith
