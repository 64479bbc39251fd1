-- The tables of functions: when they are equal, and that a table along some fixed inputs is a part.
use Rattle.std.proofs.Common.{◌≡◌, ℕ, zero, suc, ◌/◌, ◌<◌, ◌≤◌, Bool, true, false, cond, not, ltb, List, [], ◌∷◌, ◌++◌, length, sym, refl, ap, ◌∙◌, subst, ap₂, inl, inr, ⊎_elim, arith}
use Rattle.std.proofs.lemmas.Bool.{cases_Bool, cases_lt, cases_eq, lt-ltb, le-ltb, both_ways, ltb-true}
use Rattle.bdd.specs.declared.store.nodes.Node.{Node}
use Rattle.bdd.specs.Diagram.{node_at, turned, inverted, value, eval, var_at, top, Good}
use Rattle.bdd.specs.Parts.{fixed}
use Rattle.bdd.specs.Size.{Fn, one, fork, same, opposite, parts, table, In, Above, Ascending, Only}
use Rattle.bdd.proofs.Values.{branch_like}
use Rattle.bdd.proofs.Canon.{upd, upd_at, upd_other, branch_at}
use Rattle.bdd.proofs.Pigeons.{same_true, same_of, Known, known_left, known_right}

-- the inputs from w on
abbrev pub after : ℕ → List ℕ → List ℕ
after w [] = []
after w (v ∷ vs) = cond (ltb v w) (after w vs) (v ∷ vs)

-- ρ, with the inputs of the list that are below w as in σ
abbrev pub along : (ℕ → Bool) → ℕ → List ℕ → (ℕ → Bool) → ℕ → Bool
along σ w [] ρ = ρ
along σ w (v ∷ vs) ρ = cond (ltb v w) (along σ w vs (upd ρ v (σ v))) ρ

-- ρ, with the inputs of the list as in τ
abbrev pub on : List ℕ → (ℕ → Bool) → (ℕ → Bool) → ℕ → Bool
on [] τ ρ = ρ
on (v ∷ vs) τ ρ = on vs τ (upd ρ v (τ v))

unfoldable pub Depends : Fn → Type 0
Depends (one b) = ⊥
Depends (fork x y) = same x y ≡ false

unfoldable pub depth : Fn → ℕ
depth (one b) = 0
depth (fork x y) = suc (depth x)

pub depth_table : (vs : List ℕ) (φ : (ℕ → Bool) → Bool) (ρ : ℕ → Bool) → depth (table vs φ ρ) ≡ length vs
unfolding depth
depth_table [] φ ρ = refl
depth_table (v ∷ vs) φ ρ = ap suc (depth_table vs φ (upd ρ v true))

pub depth_opposite : (t : Fn) → depth (opposite t) ≡ depth t
unfolding depth
depth_opposite (one b) = refl
depth_opposite (fork x y) = ap suc (depth_opposite x)

pub opposite_table : (vs : List ℕ) (φ : (ℕ → Bool) → Bool) (ρ : ℕ → Bool) → opposite (table vs φ ρ) ≡ table vs (λ σ. not (φ σ)) ρ
opposite_table [] φ ρ = refl
opposite_table (v ∷ vs) φ ρ = ap₂ fork (opposite_table vs φ (upd ρ v true)) (opposite_table vs φ (upd ρ v false))

pub fork_left : (x y z w : Fn) → fork x y ≡ fork z w → x ≡ z
fork_left x y z w e = cc

fork_right : (x y z w : Fn) → fork x y ≡ fork z w → y ≡ w
fork_right x y z w e = cc

one_same : (a b : Bool) → one a ≡ one b → a ≡ b
one_same a b e = cc

-- equal tables are of functions that agree on the inputs
pub table_inj : (vs : List ℕ) (φ ψ : (ℕ → Bool) → Bool) (ρ ρ' τ : ℕ → Bool) → table vs φ ρ ≡ table vs ψ ρ' → φ (on vs τ ρ) ≡ ψ (on vs τ ρ')
table_inj [] φ ψ ρ ρ' τ e = one_same (φ ρ) (ψ ρ') e
table_inj (v ∷ vs) φ ψ ρ ρ' τ e =
    let P : Bool → Type 0 = λ b. φ (on vs τ (upd ρ v b)) ≡ ψ (on vs τ (upd ρ' v b)) in
    elim (τ v) as P [
      | true ↦ table_inj vs φ ψ (upd ρ v true) (upd ρ' v true) τ (fork_left _ _ _ _ e)
      | false ↦ table_inj vs φ ψ (upd ρ v false) (upd ρ' v false) τ (fork_right _ _ _ _ e)
    ]

-- tables of functions that agree wherever R holds, which a fixed input keeps
pub table_like : (vs : List ℕ) (φ ψ : (ℕ → Bool) → Bool) (R : (ℕ → Bool) → (ℕ → Bool) → Type 0) (w : ℕ)
    → ((ρ ρ' : ℕ → Bool) → R ρ ρ' → φ ρ ≡ ψ ρ') → ((ρ ρ' : ℕ → Bool) (v : ℕ) (b : Bool) → w ≤ v → R ρ ρ' → R (upd ρ v b) (upd ρ' v b))
    → ((v : ℕ) → In v vs → w ≤ v) → (ρ ρ' : ℕ → Bool) → R ρ ρ' → table vs φ ρ ≡ table vs ψ ρ'
table_like [] φ ψ R w agree keep from ρ ρ' r = ap one (agree ρ ρ' r)
table_like (v ∷ vs) φ ψ R w agree keep from ρ ρ' r =
    let le : w ≤ v = from v (inl refl) in
    ap₂ fork
    (table_like vs φ ψ R w agree keep (λ u h. from u (inr h)) (upd ρ v true) (upd ρ' v true) (keep ρ ρ' v true le r))
    (table_like vs φ ψ R w agree keep (λ u h. from u (inr h)) (upd ρ v false) (upd ρ' v false) (keep ρ ρ' v false le r))

pub above_in : (v : ℕ) (ws : List ℕ) (u : ℕ) → Above v ws → In u ws → v < u
above_in v [] u a h = absurd h
above_in v (w ∷ ws) u a (inl e) = let l = a.0 in omega arith
above_in v (w ∷ ws) u a (inr h) = above_in v ws u a.1 h

on_stays : (vs : List ℕ) (τ ρ : ℕ → Bool) (u : ℕ) → ρ u ≡ τ u → on vs τ ρ u ≡ τ u
on_stays [] τ ρ u h = h
on_stays (v ∷ vs) τ ρ u h = on_stays vs τ (upd ρ v (τ v)) u (⊎_elim
    (λ e. ap (upd ρ v (τ v)) e ∙ upd_at ρ v (τ v) ∙ ap τ (sym e))
    (λ ne. upd_other ρ v (τ v) u ne ∙ h)
    (cases_eq u v))

pub on_in : (vs : List ℕ) (τ ρ : ℕ → Bool) (u : ℕ) → In u vs → on vs τ ρ u ≡ τ u
on_in [] τ ρ u h = absurd h
on_in (v ∷ vs) τ ρ u (inl e) = on_stays vs τ (upd ρ v (τ v)) u (ap (upd ρ v (τ v)) e ∙ upd_at ρ v (τ v) ∙ ap τ (sym e))
on_in (v ∷ vs) τ ρ u (inr h) = on_in vs τ (upd ρ v (τ v)) u h

-- a list of inputs from w on begins with w
pub record From (vs : List ℕ) (w : ℕ) : Type 0 where
  pub rest : List ℕ
  pub is : after w vs ≡ w ∷ rest
  pub has : (u : ℕ) → In u vs → w < u → In u rest
  pub from : (u : ℕ) → In u (after w vs) → w ≤ u
  pub later : (u : ℕ) → In u rest → w < u

from_here : (v : ℕ) (vs : List ℕ) (w : ℕ) → Above v vs → w ≡ v → From (v ∷ vs) w
from_here v vs w a e =
    let t : ltb v w ≡ false = le-ltb v w (omega arith) in
    let is : after w (v ∷ vs) ≡ v ∷ vs = ap (λ b. cond b (after w vs) (v ∷ vs)) t in
    record {
      rest = vs;
      is = is ∙ ap (λ x. x ∷ vs) (sym e);
      has = λ u h lt. ⊎_elim (λ d. absurd (omega arith)) (λ k. k) h;
      from = λ u h. ⊎_elim (λ d. omega arith) (λ k. let l = above_in v vs u a k in omega arith) (subst (In u) is h);
      later = λ u h. let l = above_in v vs u a h in omega arith;
    }

from_later : (v : ℕ) (vs : List ℕ) (w : ℕ) → v < w → From vs w → From (v ∷ vs) w
from_later v vs w lt f =
    let t : ltb v w ≡ true = lt-ltb v w lt in
    let is : after w (v ∷ vs) ≡ after w vs = ap (λ b. cond b (after w vs) (v ∷ vs)) t in
    record {
      rest = f.rest;
      is = is ∙ f.is;
      has = λ u h l. ⊎_elim (λ d. absurd (omega arith)) (λ k. f.has u k l) h;
      from = λ u h. f.from u (subst (In u) is h);
      later = f.later;
    }

pub from_in : (vs : List ℕ) (w : ℕ) → Ascending vs → In w vs → From vs w
from_in [] w a h = absurd h
from_in (v ∷ vs) w a (inl e) = from_here v vs w a.0 e
from_in (v ∷ vs) w a (inr h) = from_later v vs w (above_in v vs w a.0 h) (from_in vs w a.1 h)

-- the later of two inputs has fewer from it on
pub fewer : (vs : List ℕ) (w x : ℕ) → Ascending vs → In w vs → In x vs → w < x → length (after x vs) < length (after w vs)
fewer [] w x a hw hx lt = absurd hw
fewer (v ∷ vs) w x a (inl e) hx lt =
    let t : ltb v w ≡ false = le-ltb v w (omega arith) in
    let s : ltb v x ≡ true = lt-ltb v x (omega arith) in
    omega (arith, ap (λ b. length (cond b (after w vs) (v ∷ vs))) t, ap (λ b. length (cond b (after x vs) (v ∷ vs))) s, after_short x vs)
  where
    after_short : (y : ℕ) (us : List ℕ) → length (after y us) ≤ length us
    after_short y [] = omega arith
    after_short y (u ∷ us) = elim (ltb u y) as (λ b. length (cond b (after y us) (u ∷ us)) ≤ suc (length us)) [ true ↦ (let ih = after_short y us in omega arith) | false ↦ omega arith ]
fewer (v ∷ vs) w x a (inr hw) (inl e) lt = let l = above_in v vs w a.0 hw in absurd (omega arith)
fewer (v ∷ vs) w x a (inr hw) (inr hx) lt =
    let l = above_in v vs w a.0 hw in
    let t : ltb v w ≡ true = lt-ltb v w (omega arith) in
    let s : ltb v x ≡ true = lt-ltb v x (omega arith) in
    omega (arith, ap (λ b. length (cond b (after w vs) (v ∷ vs))) t, ap (λ b. length (cond b (after x vs) (v ∷ vs))) s, fewer vs w x a.1 hw hx lt)

part_here : (x y : Fn) (us : List Fn) → Depends (fork x y) → Known (fork x y) (cond (same x y) [] (fork x y ∷ []) ++ us)
unfolding Depends
part_here x y us d = subst (λ b. Known (fork x y) (cond b [] (fork x y ∷ []) ++ us)) (sym d) (inl (inl refl))

-- a table along some inputs is a part, if it depends on the next
pub part_known : (vs : List ℕ) (φ : (ℕ → Bool) → Bool) (ρ σ : ℕ → Bool) (w : ℕ) → Ascending vs → In w vs → Depends (table (after w vs) φ (along σ w vs ρ))
    → Known (table (after w vs) φ (along σ w vs ρ)) (parts (table vs φ ρ))
part_known [] φ ρ σ w a h d = absurd h
part_known (v ∷ vs) φ ρ σ w a (inl e) d =
    let x : Fn = table vs φ (upd ρ v true) in
    let y : Fn = table vs φ (upd ρ v false) in
    let S : Bool → Fn = λ b. table (cond b (after w vs) (v ∷ vs)) φ (cond b (along σ w vs (upd ρ v (σ v))) ρ) in
    let t : ltb v w ≡ false = le-ltb v w (omega arith) in
    let P : Bool → Type 0 = λ b. Depends (S b) → Known (S b) (parts (table (v ∷ vs) φ ρ)) in
    let here : P false = λ d'. part_here x y (parts x ++ parts y) d' in
    subst P (sym t) here d
part_known (v ∷ vs) φ ρ σ w a (inr k) d =
    let x : Fn = table vs φ (upd ρ v true) in
    let y : Fn = table vs φ (upd ρ v false) in
    let own : List Fn = cond (same x y) [] (fork x y ∷ []) in
    let S : Bool → Fn = λ b. table (cond b (after w vs) (v ∷ vs)) φ (cond b (along σ w vs (upd ρ v (σ v))) ρ) in
    let l = above_in v vs w a.0 k in
    let t : ltb v w ≡ true = lt-ltb v w l in
    let P : Bool → Type 0 = λ b. Depends (S b) → Known (S b) (parts (table (v ∷ vs) φ ρ)) in
    let Q : Bool → Type 0 = λ b. Known (S true) (parts (table vs φ (upd ρ v b))) → Known (S true) (own ++ (parts x ++ parts y)) in
    let both : Q (σ v) = elim (σ v) as Q [
      | true ↦ λ q. known_right (S true) own (parts x ++ parts y) (known_left (S true) (parts x) (parts y) q)
      | false ↦ λ q. known_right (S true) own (parts x ++ parts y) (known_right (S true) (parts x) (parts y) q)
    ] in
    let there : P true = λ d'. both (part_known vs φ (upd ρ v (σ v)) σ w a.1 k d') in
    subst P (sym t) there d

-- what an edge looks at
value_only : (ns : List Node) (ρ ρ' : ℕ → Bool) (w : ℕ) → Good ns → ((i : ℕ) → i < length ns → w ≤ (node_at ns i).var → ρ (node_at ns i).var ≡ ρ' (node_at ns i).var)
    → (k j : ℕ) → j ≤ length ns → w ≤ var_at ns j → value k ns ρ j ≡ value k ns ρ' j
unfolding value
value_only ns ρ ρ' w good agree zero j h le = refl
value_only ns ρ ρ' w good agree (suc k) zero h le = refl
value_only ns ρ ρ' w good agree (suc k) (suc i) h le =
    let n : Node = node_at ns i in
    let f = good.fits i h in
    let hb = f.high_back in
    let lb = f.low_back in
    let hl = f.high_later in
    let ll = f.low_later in
    branch_at ρ ρ' (value k ns ρ) n (agree i h le)
    ∙ branch_like ρ' (value k ns ρ) (value k ns ρ') n
    (value_only ns ρ ρ' w good agree k (n.high / 2) (omega arith) (omega arith))
    (value_only ns ρ ρ' w good agree k (n.low / 2) (omega arith) (omega arith))

pub eval_only : (ns : List Node) (ρ ρ' : ℕ → Bool) (w e : ℕ) → Good ns → ((i : ℕ) → i < length ns → w ≤ (node_at ns i).var → ρ (node_at ns i).var ≡ ρ' (node_at ns i).var)
    → e / 2 ≤ length ns → w ≤ top ns e → eval ns ρ e ≡ eval ns ρ' e
unfolding eval
eval_only ns ρ ρ' w e good agree h le = ap (turned (inverted e)) (value_only ns ρ ρ' w good agree (e / 2) (e / 2) h le)

pub on_out : (vs : List ℕ) (τ ρ : ℕ → Bool) (u : ℕ) → (In u vs → ⊥) → on vs τ ρ u ≡ ρ u
on_out [] τ ρ u h = refl
on_out (v ∷ vs) τ ρ u h = on_out vs τ (upd ρ v (τ v)) u (λ k. h (inr k)) ∙ upd_other ρ v (τ v) u (λ e. h (inl e))

along_high : (vs : List ℕ) (σ ρ : ℕ → Bool) (w u : ℕ) → w ≤ u → along σ w vs ρ u ≡ ρ u
along_high [] σ ρ w u le = refl
along_high (v ∷ vs) σ ρ w u le =
    let A : Bool → ℕ → Bool = λ b. cond b (along σ w vs (upd ρ v (σ v))) ρ in
    ⊎_elim
    (λ t. let l = ltb-true v w t in ap (λ b. A b u) t ∙ along_high vs σ (upd ρ v (σ v)) w u le ∙ upd_other ρ v (σ v) u (omega arith))
    (λ t. ap (λ b. A b u) t)
    (cases_Bool (ltb v w))

along_stays : (vs : List ℕ) (σ ρ : ℕ → Bool) (w u : ℕ) → ρ u ≡ σ u → along σ w vs ρ u ≡ σ u
along_stays [] σ ρ w u h = h
along_stays (v ∷ vs) σ ρ w u h =
    let A : Bool → ℕ → Bool = λ b. cond b (along σ w vs (upd ρ v (σ v))) ρ in
    ⊎_elim
    (λ t. ap (λ b. A b u) t ∙ along_stays vs σ (upd ρ v (σ v)) w u (⊎_elim
    (λ e. ap (upd ρ v (σ v)) e ∙ upd_at ρ v (σ v) ∙ ap σ (sym e))
    (λ ne. upd_other ρ v (σ v) u ne ∙ h)
    (cases_eq u v)))
    (λ t. ap (λ b. A b u) t ∙ h)
    (cases_Bool (ltb v w))

along_low : (vs : List ℕ) (σ ρ : ℕ → Bool) (w u : ℕ) → Ascending vs → In u vs → u < w → along σ w vs ρ u ≡ σ u
along_low [] σ ρ w u a h lt = absurd h
along_low (v ∷ vs) σ ρ w u a (inl e) lt =
    let A : Bool → ℕ → Bool = λ b. cond b (along σ w vs (upd ρ v (σ v))) ρ in
    ap (λ b. A b u) (lt-ltb v w (omega arith)) ∙ along_stays vs σ (upd ρ v (σ v)) w u (ap (upd ρ v (σ v)) e ∙ upd_at ρ v (σ v) ∙ ap σ (sym e))
along_low (v ∷ vs) σ ρ w u a (inr h) lt =
    let A : Bool → ℕ → Bool = λ b. cond b (along σ w vs (upd ρ v (σ v))) ρ in
    let l = above_in v vs u a.0 h in
    ap (λ b. A b u) (lt-ltb v w (omega arith)) ∙ along_low vs σ (upd ρ v (σ v)) w u a.1 h lt

fixed_low : (σ ρ : ℕ → Bool) (w u : ℕ) → u < w → fixed σ w ρ u ≡ σ u
fixed_low σ ρ w u lt = ap (λ b. cond b (σ u) (ρ u)) (lt-ltb u w lt)

fixed_high : (σ ρ : ℕ → Bool) (w u : ℕ) → w ≤ u → fixed σ w ρ u ≡ ρ u
fixed_high σ ρ w u le = ap (λ b. cond b (σ u) (ρ u)) (le-ltb u w le)

-- fixing the inputs below w in a table
pub fixed_table : (vs : List ℕ) (φ : (ℕ → Bool) → Bool) (σ ρ : ℕ → Bool) (w : ℕ) → Ascending vs → Only vs φ → From vs w → table (after w vs) (λ τ. φ (fixed σ w τ)) ρ ≡ table (after w vs) φ (along σ w vs ρ)
fixed_table vs φ σ ρ w a only f =
    let R : (ℕ → Bool) → (ℕ → Bool) → Type 0 = λ τ τ'. (u : ℕ) → In u vs → fixed σ w τ u ≡ τ' u in
    table_like (after w vs) (λ τ. φ (fixed σ w τ)) φ R w
    (λ τ τ' r. only (fixed σ w τ) τ' r)
    (λ τ τ' v b le r u h. ⊎_elim
    (λ e. fixed_high σ (upd τ v b) w u (omega arith) ∙ ap (upd τ v b) e ∙ upd_at τ v b ∙ sym (ap (upd τ' v b) e ∙ upd_at τ' v b))
    (λ ne. ⊎_elim
    (λ lt. fixed_low σ (upd τ v b) w u lt ∙ sym (fixed_low σ τ w u lt) ∙ r u h ∙ sym (upd_other τ' v b u ne))
    (λ ge. fixed_high σ (upd τ v b) w u ge ∙ upd_other τ v b u ne ∙ sym (fixed_high σ τ w u ge) ∙ r u h ∙ sym (upd_other τ' v b u ne))
    (cases_lt u w))
    (cases_eq u v))
    f.from
    ρ (along σ w vs ρ)
    (λ u h. ⊎_elim
    (λ lt. fixed_low σ ρ w u lt ∙ sym (along_low vs σ ρ w u a h lt))
    (λ ge. fixed_high σ ρ w u ge ∙ sym (along_high vs σ ρ w u ge))
    (cases_lt u w))

pub depends_opposite : (t : Fn) → Depends (opposite t) → Depends t
unfolding Depends
depends_opposite (one b) d = d
depends_opposite (fork x y) d = ⊎_elim
    (λ t. absurd (both_ways (same (opposite x) (opposite y)) d (same_of (opposite x) (opposite y) (ap opposite (same_true x y t)))))
    (λ f. f)
    (cases_Bool (same x y))
