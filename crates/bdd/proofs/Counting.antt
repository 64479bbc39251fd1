-- The nodes of a good table are no more than the parts of the functions that they are parts of.
use Rattle.std.proofs.Common.{◌≡◌, ℕ, suc, ◌+◌, ◌*◌, ◌/◌, ◌<◌, ◌≤◌, Bool, true, false, cond, not, ◌&&◌, ltb, ◌⊎◌, List, [], ◌∷◌, ◌++◌, length, sym, ap, ◌∙◌, subst, ap₂, inl, inr, ⊎_elim, arith, length-append}
use mathlib.Core.Path.{fun_ext}
use Rattle.std.proofs.lemmas.Bool.{cases_Bool, cases_lt, cases_eq, cases_order}
use Rattle.bdd.specs.declared.store.nodes.Node.{Node}
use Rattle.bdd.specs.Diagram.{child, node_at, flip, turned, inverted, eval, var_at, top, Within, Good, Same, Grown}
use Rattle.bdd.specs.Parts.{fixed, PartOf, conj}
use Rattle.bdd.specs.Size.{Fn, same, opposite, parts, table, all_parts, In, Ascending, Only}
use Rattle.bdd.specs.Laws.{Held, Inputs, Fitting, TooMany}
use Rattle.bdd.proofs.Growth.{part_kept}
use Rattle.bdd.proofs.Values.{grown_on, grown_push, eval_flip, eval_child, turned_even, flip_half}
use Rattle.bdd.proofs.Canon.{eval_upd, upd, upd_at, upd_other, same_edge}
use Rattle.bdd.proofs.Pigeons.{same_true, Near, Known, known_near, known_left, known_right, pigeons}
use Rattle.bdd.proofs.Tables.{after, along, on, Depends, depth, depth_table, depth_opposite, opposite_table, table_inj, on_in, From, from_in, fewer, part_known, eval_only, on_out, fixed_table, depends_opposite}

module _ (ns : List Node) (good : Good ns) (vs : List ℕ) (asc : Ascending vs) (vars : (i : ℕ) → i < length ns → In (node_at ns i).var vs) where
  -- the function of the node i, as a table over the inputs from its own on
  unfoldable pub table_of : ℕ → Fn
  table_of i = table (after (node_at ns i).var vs) (λ ρ. eval ns ρ (2 * (i + 1))) (λ _. false)

  pub top_own : (i : ℕ) → top ns (2 * (i + 1)) ≡ (node_at ns i).var
  top_own i = let half : 2 * (i + 1) / 2 ≡ suc i = omega arith in ap (var_at ns) half

  in_after : (w u : ℕ) → From vs w → In u vs → w ≤ u → In u (after w vs)
  in_after w u f h le = subst (In u) (sym f.is) (⊎_elim (λ e. inl e) (λ ne. inr (f.has u h (omega arith))) (cases_eq u w))

  node_on : (i : ℕ) (τ ρ : ℕ → Bool) → i < length ns → From vs (node_at ns i).var → eval ns (on (after (node_at ns i).var vs) τ ρ) (2 * (i + 1)) ≡ eval ns τ (2 * (i + 1))
  node_on i τ ρ h f =
      let w : ℕ = (node_at ns i).var in
      eval_only ns (on (after w vs) τ ρ) τ w (2 * (i + 1)) good (λ j hj le. on_in (after w vs) τ ρ (node_at ns j).var (in_after w (node_at ns j).var f (vars j hj) le)) (omega arith) (omega (arith, top_own i))

  child_on : (w e : ℕ) (τ ρ : ℕ → Bool) (f : From vs w) → e / 2 ≤ length ns → w < top ns e → eval ns (on f.rest τ ρ) e ≡ eval ns τ e
  child_on w e τ ρ f h lt =
      eval_only ns (on f.rest τ ρ) τ (w + 1) e good (λ j hj le. on_in f.rest τ ρ (node_at ns j).var (f.has (node_at ns j).var (vars j hj) (omega arith))) h (omega arith)

  not_same : (i : ℕ) (h : i < length ns) (f : From vs (node_at ns i).var) → table f.rest (λ ρ. eval ns ρ (2 * (i + 1))) (upd (λ _. false) (node_at ns i).var true) ≡ table f.rest (λ ρ. eval ns ρ (2 * (i + 1))) (upd (λ _. false) (node_at ns i).var false) → ⊥
  not_same i h f e =
      let n : Node = node_at ns i in
      let w : ℕ = n.var in
      let fits = good.fits i h in
      let hb = fits.high_back in
      let lb = fits.low_back in
      let half : 2 * (i + 1) / 2 ≡ suc i = omega arith in
      let ρ₁ : ℕ → Bool = upd (λ _. false) w true in
      let ρ₀ : ℕ → Bool = upd (λ _. false) w false in
      let own : In w f.rest → ⊥ = λ k. let l = f.later w k in omega arith in
      let even : (b : Bool) → turned (inverted (2 * (i + 1))) b ≡ b = λ b. turned_even (2 * (i + 1)) b (omega arith) in
      let high : (τ : ℕ → Bool) → eval ns (on f.rest τ ρ₁) (2 * (i + 1)) ≡ eval ns τ n.high = λ τ.
      eval_child ns (on f.rest τ ρ₁) (2 * (i + 1)) i true good half h (on_out f.rest τ ρ₁ w own ∙ upd_at (λ _. false) w true)
      ∙ even (eval ns (on f.rest τ ρ₁) n.high) ∙ child_on w n.high τ ρ₁ f (omega arith) fits.high_later in
      let low : (τ : ℕ → Bool) → eval ns (on f.rest τ ρ₀) (2 * (i + 1)) ≡ eval ns τ n.low = λ τ.
      eval_child ns (on f.rest τ ρ₀) (2 * (i + 1)) i false good half h (on_out f.rest τ ρ₀ w own ∙ upd_at (λ _. false) w false)
      ∙ even (eval ns (on f.rest τ ρ₀) n.low) ∙ child_on w n.low τ ρ₀ f (omega arith) fits.low_later in
      fits.differ (same_edge ns n.high n.low good (omega arith) (omega arith)
      (λ τ. sym (high τ) ∙ table_inj f.rest (λ ρ. eval ns ρ (2 * (i + 1))) (λ ρ. eval ns ρ (2 * (i + 1))) ρ₁ ρ₀ τ e ∙ low τ))

  pub depends_own : (i : ℕ) → i < length ns → Depends (table_of i)
  unfolding Depends table_of
  depends_own i h =
      let w : ℕ = (node_at ns i).var in
      let f = from_in vs w asc (vars i h) in
      let x : Fn = table f.rest (λ ρ. eval ns ρ (2 * (i + 1))) (upd (λ _. false) w true) in
      let y : Fn = table f.rest (λ ρ. eval ns ρ (2 * (i + 1))) (upd (λ _. false) w false) in
      let differ : same x y ≡ false = ⊎_elim (λ t. absurd (not_same i h f (same_true x y t))) (λ t. t) (cases_Bool (same x y)) in
      subst (λ ws. Depends (table ws (λ ρ. eval ns ρ (2 * (i + 1))) (λ _. false))) (sym f.is) differ

  same_input : (i j : ℕ) → i < length ns → j < length ns → depth (table_of i) ≡ depth (table_of j) → (node_at ns i).var ≡ (node_at ns j).var
  unfolding table_of
  same_input i j hi hj e =
      let w : ℕ = (node_at ns i).var in
      let x : ℕ = (node_at ns j).var in
      let di = depth_table (after w vs) (λ ρ. eval ns ρ (2 * (i + 1))) (λ _. false) in
      let dj = depth_table (after x vs) (λ ρ. eval ns ρ (2 * (j + 1))) (λ _. false) in
      ⊎_elim (λ q. q)
      (⊎_elim (λ lt. let l = fewer vs w x asc (vars i hi) (vars j hj) lt in absurd (omega arith)) (λ gt. let l = fewer vs x w asc (vars j hj) (vars i hi) gt in absurd (omega arith)))
      (cases_order w x)

  pub near_own : (i j : ℕ) → i < length ns → j < length ns → Near (table_of i) (table_of j) → i ≡ j
  unfolding table_of
  near_own i j hi hj (inl e) =
      let w : ℕ = (node_at ns i).var in
      let same_var = same_input i j hi hj (ap depth e) in
      let f = from_in vs w asc (vars i hi) in
      let g = from_in vs (node_at ns j).var asc (vars j hj) in
      let εi : (ℕ → Bool) → Bool = λ ρ. eval ns ρ (2 * (i + 1)) in
      let εj : (ℕ → Bool) → Bool = λ ρ. eval ns ρ (2 * (j + 1)) in
      let moved : table (after w vs) εi (λ _. false) ≡ table (after w vs) εj (λ _. false) = e ∙ ap (λ x. table (after x vs) εj (λ _. false)) (sym same_var) in
      let agree : Same ns (2 * (i + 1)) ns (2 * (j + 1)) = λ τ.
      sym (node_on i τ (λ _. false) hi f) ∙ table_inj (after w vs) εi εj (λ _. false) (λ _. false) τ moved
      ∙ ap (λ x. εj (on (after x vs) τ (λ _. false))) same_var ∙ node_on j τ (λ _. false) hj g in
      let edges = same_edge ns (2 * (i + 1)) (2 * (j + 1)) good (omega arith) (omega arith) agree in
      omega arith
  near_own i j hi hj (inr e) =
      let w : ℕ = (node_at ns i).var in
      let same_var = same_input i j hi hj (ap depth e ∙ depth_opposite (table_of j)) in
      let f = from_in vs w asc (vars i hi) in
      let g = from_in vs (node_at ns j).var asc (vars j hj) in
      let εi : (ℕ → Bool) → Bool = λ ρ. eval ns ρ (2 * (i + 1)) in
      let εj : (ℕ → Bool) → Bool = λ ρ. eval ns ρ (2 * (j + 1)) in
      let nj : (ℕ → Bool) → Bool = λ ρ. not (εj ρ) in
      let moved : table (after w vs) εi (λ _. false) ≡ table (after w vs) nj (λ _. false) = e ∙ opposite_table (after (node_at ns j).var vs) εj (λ _. false) ∙ ap (λ x. table (after x vs) nj (λ _. false)) (sym same_var) in
      let agree : Same ns (2 * (i + 1)) ns (flip (2 * (j + 1))) = λ τ.
      sym (node_on i τ (λ _. false) hi f) ∙ table_inj (after w vs) εi nj (λ _. false) (λ _. false) τ moved
      ∙ ap (λ x. nj (on (after x vs) τ (λ _. false))) same_var ∙ ap not (node_on j τ (λ _. false) hj g) ∙ sym (eval_flip ns τ (2 * (j + 1))) in
      let edges = same_edge ns (2 * (i + 1)) (flip (2 * (j + 1))) good (omega arith) (omega (arith, flip_half (2 * (j + 1)))) agree in
      absurd (omega arith)

  pub near_part : (i : ℕ) (φ : (ℕ → Bool) → Bool) (p : PartOf ns φ i) → i < length ns → Only vs φ → Near (table_of i) (table (after (node_at ns i).var vs) φ (along p.at (node_at ns i).var vs (λ _. false)))
  unfolding table_of
  near_part i φ p h only =
      let w : ℕ = (node_at ns i).var in
      let σ : ℕ → Bool = p.at in
      let f = from_in vs w asc (vars i h) in
      let ψ : (ℕ → Bool) → Bool = λ ρ. φ (fixed σ w ρ) in
      let s₀ : Fn = table (after w vs) φ (along σ w vs (λ _. false)) in
      let at : table (after w vs) ψ (λ _. false) ≡ s₀ = fixed_table vs φ σ (λ _. false) w asc only f in
      let own : table_of i ≡ table (after w vs) (λ ρ. turned p.turn (ψ ρ)) (λ _. false) = ap (λ ε. table (after w vs) ε (λ _. false)) (fun_ext p.value_is) in
      let P : Bool → Type 0 = λ b. table_of i ≡ table (after w vs) (λ ρ. turned b (ψ ρ)) (λ _. false) → Near (table_of i) s₀ in
      let both : P p.turn = elim p.turn as P [
        | true ↦ λ q. inr (q ∙ sym (opposite_table (after w vs) ψ (λ _. false)) ∙ ap opposite at)
        | false ↦ λ q. inl (q ∙ at)
      ] in
      both own

  pub known_own : (i : ℕ) (φ : (ℕ → Bool) → Bool) → i < length ns → Only vs φ → PartOf ns φ i → Known (table_of i) (parts (table vs φ (λ _. false)))
  known_own i φ h only p =
      let w : ℕ = (node_at ns i).var in
      let s₀ : Fn = table (after w vs) φ (along p.at w vs (λ _. false)) in
      let near = near_part i φ p h only in
      let d : Depends s₀ = ⊎_elim (λ e. subst Depends e (depends_own i h)) (λ e. depends_opposite s₀ (subst Depends e (depends_own i h))) near in
      known_near (table_of i) s₀ (parts (table vs φ (λ _. false))) near (part_known vs φ (λ _. false) p.at w asc (vars i h) d)

  known_all : (i : ℕ) (φs : List ((ℕ → Bool) → Bool)) → i < length ns → Held ns vs i φs → Known (table_of i) (all_parts vs φs)
  known_all i [] h k = absurd k
  known_all i (φ ∷ φs) h (inl q) = known_left (table_of i) (parts (table vs φ (λ _. false))) (all_parts vs φs) (known_own i φ h q.0 q.1)
  known_all i (φ ∷ φs) h (inr k) = known_right (table_of i) (parts (table vs φ (λ _. false))) (all_parts vs φs) (known_all i φs h k)

pub fitting : Fitting
fitting ns vs φs good asc vars held = pigeons (all_parts vs φs) (length ns) (table_of ns good vs asc vars) (λ i h. known_all ns good vs asc vars i φs h (held i h)) (near_own ns good vs asc vars)

pub held_kept : (ns os : List Node) (vs : List ℕ) (i : ℕ) (φs : List ((ℕ → Bool) → Bool)) → Good ns → Grown ns os → i < length ns → Held ns vs i φs → Held os vs i φs
held_kept ns os vs i [] good grown h k = k
held_kept ns os vs i (φ ∷ φs) good grown h (inl q) = inl (q.0, part_kept ns os φ i good grown h q.1)
held_kept ns os vs i (φ ∷ φs) good grown h (inr k) = inr (held_kept ns os vs i φs good grown h k)

-- a conjunction looks at no input but those of the table, as whoever asks whether there was room for it has to show
pub only_conj : (ns : List Node) (vs : List ℕ) (f g : ℕ) → Good ns → Inputs ns vs → Within ns f → Within ns g → Only vs (conj ns f g)
only_conj ns vs f g good vars inf ing ρ ρ' agree =
    ap₂ ◌&&◌
    (eval_only ns ρ ρ' 0 f good (λ i h le. agree (node_at ns i).var (vars i h)) inf (omega arith))
    (eval_only ns ρ ρ' 0 g good (λ i h le. agree (node_at ns i).var (vars i h)) ing (omega arith))

in_or_not : (w : ℕ) (vs : List ℕ) → In w vs ⊎ (In w vs → ⊥)
in_or_not w [] = inr (λ h. h)
in_or_not w (v ∷ vs) = ⊎_elim
    (λ e. inl (inl e))
    (λ ne. ⊎_elim (λ k. inl (inr k)) (λ nk. inr (λ h. ⊎_elim ne nk h)) (in_or_not w vs))
    (cases_eq w v)

-- a part of a function looks only at the function's inputs
pub part_input : (ns : List Node) (vs : List ℕ) (φ : (ℕ → Bool) → Bool) (i : ℕ) → Good ns → i < length ns → Only vs φ → PartOf ns φ i → In (node_at ns i).var vs
part_input ns vs φ i good h only p =
    let n : Node = node_at ns i in
    let w : ℕ = n.var in
    let fits = good.fits i h in
    let hb = fits.high_back in
    let lb = fits.low_back in
    let half : 2 * (i + 1) / 2 ≡ suc i = omega arith in
    let even : (b : Bool) → turned (inverted (2 * (i + 1))) b ≡ b = λ b. turned_even (2 * (i + 1)) b (omega arith) in
    let at : (ρ : ℕ → Bool) (b : Bool) → eval ns (upd ρ w b) (2 * (i + 1)) ≡ eval ns (upd ρ w b) (child n b) = λ ρ b.
    eval_child ns (upd ρ w b) (2 * (i + 1)) i b good half h (upd_at ρ w b) ∙ even (eval ns (upd ρ w b) (child n b)) in
    ⊎_elim (λ k. k)
    (λ out.
    let free : (ρ : ℕ → Bool) → φ (fixed p.at w (upd ρ w true)) ≡ φ (fixed p.at w (upd ρ w false)) = λ ρ.
    only (fixed p.at w (upd ρ w true)) (fixed p.at w (upd ρ w false)) (λ u k.
    let ne : u ≡ w → ⊥ = λ e. out (subst (λ x. In x vs) e k) in
    ap (λ y. cond (ltb u w) (p.at u) y) (upd_other ρ w true u ne ∙ sym (upd_other ρ w false u ne))) in
    absurd (fits.differ (same_edge ns n.high n.low good (omega arith) (omega arith) (λ ρ.
    sym (at ρ true ∙ eval_upd ns ρ w true n.high good (omega arith) fits.high_later)
    ∙ p.value_is (upd ρ w true) ∙ ap (turned p.turn) (free ρ) ∙ sym (p.value_is (upd ρ w false))
    ∙ at ρ false ∙ eval_upd ns ρ w false n.low good (omega arith) fits.low_later))))
    (in_or_not w vs)

-- nodes past ns that are parts of φ, one of them more than there is room for
pub refusal : (ns ms : List Node) (φ : (ℕ → Bool) → Bool) (limit : ℕ) (extra : Node) → Good ns → Grown ns ms → limit ≤ length ms → Good (ms ++ extra ∷ [])
    → ((i : ℕ) → length ns ≤ i → i < length (ms ++ extra ∷ []) → PartOf (ms ++ extra ∷ []) φ i) → TooMany ns limit φ
refusal ns ms φ limit extra good grown full good' parts vs φs asc old only held =
    let os : List Node = ms ++ extra ∷ [] in
    let long : length os ≡ length ms + 1 = simp length-append in
    let grown' : Grown ns os = grown_on ns ms os grown (grown_push ms extra) in
    let longer = grown'.longer in
    let vars : Inputs os vs = λ i h. ⊎_elim
    (λ lt. subst (λ n. In n.var vs) (sym (grown'.kept i lt)) (old i lt))
    (λ ge. part_input os vs φ i good' h only (parts i ge h))
    (cases_lt i (length ns)) in
    let fit = fitting os vs (φ ∷ φs) good' asc vars (λ i h. ⊎_elim
    (λ lt. inr (held_kept ns os vs i φs good grown' lt (held i lt)))
    (λ ge. inl (only, parts i ge h))
    (cases_lt i (length ns))) in
    omega arith
