-- The nodes that a conjunction adds are parts of it.
use Rattle.std.proofs.Common.{◌≡◌, ℕ, zero, suc, ◌+◌, ◌*◌, ◌/◌, ◌%◌, ◌<◌, ◌≤◌, min, Bool, true, false, cond, ◌&&◌, eqb, ltb, List, [], ◌∷◌, ◌++◌, length, sym, refl, ap, ◌∙◌, subst, ap₂, ⊎_elim, arith}
use mathlib.Core.Path.{fun_ext}
use Rattle.std.proofs.lemmas.Bool.{cases_eq, cases_lt, eq-eqb, ne_eqb, lt-ltb, le-ltb}
use Rattle.bdd.specs.declared.store.nodes.Node.{Node}
use Rattle.bdd.specs.Diagram.{node_at, turned, inverted, value, eval, var_at, top, Good, Grown, Within}
use Rattle.bdd.specs.Steps.{Cofactor, Made, Both, Short, Parts, Lacking}
use Rattle.bdd.specs.Parts.{fixed, PartOf, News, conj}
use Rattle.bdd.proofs.Values.{branch_like, eval_kept, var_kept, grown_push, grown_on}
use Rattle.bdd.proofs.Joins.{both_step}
use Rattle.bdd.proofs.Canon.{upd, upd_at, eval_upd, branch_at}

upd_fixed_at : (σ : ℕ → Bool) (x : ℕ) (ρ : ℕ → Bool) (v : ℕ) (b : Bool) → v < x → (u : ℕ) → upd (fixed σ x ρ) v b u ≡ fixed (upd σ v b) x ρ u
upd_fixed_at σ x ρ v b lt u = ⊎_elim
    (λ e.
    let t : eqb u v ≡ true = eq-eqb u v e in
    let l : ltb u x ≡ true = lt-ltb u x (omega arith) in
    ap (λ k. cond k b (fixed σ x ρ u)) t ∙ sym (ap (λ k. cond k (upd σ v b u) (ρ u)) l ∙ ap (λ k. cond k b (σ u)) t))
    (λ ne.
    let t : eqb u v ≡ false = ne_eqb u v ne in
    ap (λ k. cond k b (fixed σ x ρ u)) t ∙ sym (ap (λ k. cond (ltb u x) (cond k b (σ u)) (ρ u)) t))
    (cases_eq u v)

pub upd_fixed : (σ : ℕ → Bool) (x : ℕ) (ρ : ℕ → Bool) (v : ℕ) (b : Bool) → v < x → upd (fixed σ x ρ) v b ≡ fixed (upd σ v b) x ρ
upd_fixed σ x ρ v b lt = fun_ext (upd_fixed_at σ x ρ v b lt)

pub value_fixed : (ns : List Node) (σ ρ : ℕ → Bool) (v k j : ℕ) → Good ns → j ≤ length ns → v ≤ var_at ns j → value k ns (fixed σ v ρ) j ≡ value k ns ρ j
unfolding value
value_fixed ns σ ρ v zero j good h le = refl
value_fixed ns σ ρ v (suc k) zero good h le = refl
value_fixed ns σ ρ v (suc k) (suc i) good h le =
    let n : Node = node_at ns i in
    let f = good.fits i h in
    let hb = f.high_back in
    let lb = f.low_back in
    let hl = f.high_later in
    let ll = f.low_later in
    branch_at (fixed σ v ρ) ρ (value k ns (fixed σ v ρ)) n (ap (λ t. cond t (σ n.var) (ρ n.var)) (le-ltb n.var v le))
    ∙ branch_like ρ (value k ns (fixed σ v ρ)) (value k ns ρ) n
    (value_fixed ns σ ρ v k (n.high / 2) good (omega arith) (omega arith))
    (value_fixed ns σ ρ v k (n.low / 2) good (omega arith) (omega arith))

pub eval_fixed : (ns : List Node) (σ ρ : ℕ → Bool) (v e : ℕ) → Good ns → e / 2 ≤ length ns → v ≤ top ns e → eval ns (fixed σ v ρ) e ≡ eval ns ρ e
unfolding eval
eval_fixed ns σ ρ v e good h le = ap (turned (inverted e)) (value_fixed ns σ ρ v (e / 2) (e / 2) good h le)

pub news_lift : (a w w' v : ℕ) (b : Bool) (φ φ' : (ℕ → Bool) → Bool) (ms : List Node) → News a w' φ' ms → v < w' → w ≤ v
    → ((ρ : ℕ → Bool) → ρ v ≡ b → φ' ρ ≡ φ ρ) → ((ρ : ℕ → Bool) → φ' (upd ρ v b) ≡ φ' ρ) → News a w φ ms
news_lift a w w' v b φ φ' ms news lt le same free = record {
  later = λ i ai im. let l = news.later i ai im in omega arith;
  part = λ i ai im.
      let l = news.later i ai im in
      let p = news.part i ai im in
      let x : ℕ = (node_at ms i).var in
      record {
        at = upd p.at v b;
        turn = p.turn;
        value_is = λ ρ. p.value_is ρ ∙ ap (turned p.turn)
            (sym (free (fixed p.at x ρ)) ∙ same (upd (fixed p.at x ρ) v b) (upd_at (fixed p.at x ρ) v b) ∙ ap φ (upd_fixed p.at x ρ v b (omega arith)));
      };
}

pub part_kept : (ms os : List Node) (φ : (ℕ → Bool) → Bool) (i : ℕ) → Good ms → Grown ms os → i < length ms → PartOf ms φ i → PartOf os φ i
part_kept ms os φ i good grown lt p = record {
  at = p.at;
  turn = p.turn;
  value_is = λ ρ. eval_kept ms os ρ (2 * (i + 1)) good grown (omega arith) ∙ p.value_is ρ ∙ ap (λ n. turned p.turn (φ (fixed p.at n.var ρ))) (sym (grown.kept i lt));
}

pub news_join : (a w : ℕ) (φ : (ℕ → Bool) → Bool) (ms os : List Node) → Good ms → Grown ms os → News a w φ ms → News (length ms) w φ os → News a w φ os
news_join a w φ ms os good grown early late = record {
  later = λ i ai io. ⊎_elim
      (λ lt. let l = early.later i ai lt in omega (arith, ap (λ n. n.var) (grown.kept i lt)))
      (λ le. late.later i le io)
      (cases_lt i (length ms));
  part = λ i ai io. ⊎_elim
      (λ lt. part_kept ms os φ i good grown lt (early.part i ai lt))
      (λ le. late.part i le io)
      (cases_lt i (length ms));
}

pub news_none : (w : ℕ) (φ : (ℕ → Bool) → Bool) (ms : List Node) → News (length ms) w φ ms
news_none w φ ms = record { later = λ i ai im. absurd (omega arith); part = λ i ai im. absurd (omega arith) }

pub turned_twice : (t b : Bool) → turned t (turned t b) ≡ b
turned_twice true true = refl
turned_twice true false = refl
turned_twice false b = refl

pub straight_of : (ms : List Node) (ρ : ℕ → Bool) (r i : ℕ) → r / 2 ≡ i + 1 → eval ms ρ (2 * (i + 1)) ≡ turned (inverted r) (eval ms ρ r)
unfolding eval
straight_of ms ρ r i h =
    let half : 2 * (i + 1) / 2 ≡ r / 2 = omega arith in
    let even : inverted (2 * (i + 1)) ≡ false = ne_eqb (2 * (i + 1) % 2) 1 (omega arith) in
    ap (λ t. turned t (value (2 * (i + 1) / 2) ms ρ (2 * (i + 1) / 2))) even ∙ ap (λ j. value j ms ρ j) half ∙ sym (turned_twice (inverted r) (value (r / 2) ms ρ (r / 2)))

-- the node of the result itself
pub news_own : (ns n₂ n₃ : List Node) (f g v h l r : ℕ) → Good ns → f / 2 ≤ length ns → g / 2 ≤ length ns → v ≡ min (top ns f) (top ns g)
    → Made n₂ n₃ v h l r → Both ns n₃ f g r → News (length n₂) v (conj ns f g) n₃
news_own ns n₂ n₃ f g v h l r good inf ing vis made both = ⊎_elim
    (λ same. subst (λ x. News (length n₂) v (conj ns f g) x) (sym same) (news_none v (conj ns f g) n₂))
    (λ q.
    let long = q.0 in
    record {
      later = λ i ai im.
          let is : i ≡ length n₂ = omega arith in
          omega (arith, ap (λ k. (node_at n₃ k).var) is, q.2);
      part = λ i ai im.
          let is : i ≡ length n₂ = omega arith in
          let x : (node_at n₃ i).var ≡ v = ap (λ k. (node_at n₃ k).var) is ∙ q.2 in
          let half : r / 2 ≡ i + 1 = omega (arith, q.1) in
          record {
            at = λ _. false;
            turn = inverted r;
            value_is = λ ρ. straight_of n₃ ρ r i half ∙ ap (turned (inverted r)) (both.value_is ρ
                ∙ sym (ap (λ y. conj ns f g (fixed (λ _. false) y ρ)) x
                ∙ ap₂ ◌&&◌ (eval_fixed ns (λ _. false) ρ v f good inf (omega arith)) (eval_fixed ns (λ _. false) ρ v g good ing (omega arith))));
          };
    })
    made.news

-- Two edges and their cofactors at the first variable of both: ns are the nodes at the call, and n₁ those after the high conjunction.
pub record Split (ns n₁ : List Node) (f g v fh gh fl gl : ℕ) : Type 0 where
  pub good : Good ns
  pub good₁ : Good n₁
  pub grown : Grown ns n₁
  pub f_in : Within ns f
  pub g_in : Within ns g
  pub vis : v ≡ min (top ns f) (top ns g)
  pub cfh : Cofactor ns f v true fh
  pub cgh : Cofactor ns g v true gh
  pub cfl : Cofactor ns f v false fl
  pub cgl : Cofactor ns g v false gl

module _ {ns n₁ : List Node} {f g v fh gh fl gl : ℕ} (d : Split ns n₁ f g v fh gh fl gl) where
  pub lift_high : (m₁ : List Node) → Parts ns m₁ fh gh → Parts ns m₁ f g
  lift_high m₁ p =
      let a = d.cfh.later in
      let b = d.cgh.later in
      news_lift (length ns) (min (top ns f) (top ns g)) (min (top ns fh) (top ns gh)) v true (conj ns f g) (conj ns fh gh) m₁ p (omega arith) (omega arith)
      (λ ρ t. ap₂ ◌&&◌ (d.cfh.value_is ρ t) (d.cgh.value_is ρ t))
      (λ ρ. ap₂ ◌&&◌ (eval_upd ns ρ v true fh d.good d.cfh.inside d.cfh.later) (eval_upd ns ρ v true gh d.good d.cgh.inside d.cgh.later))

  pub lift_low : (m₂ : List Node) → Parts n₁ m₂ fl gl → News (length n₁) (min (top ns f) (top ns g)) (conj ns f g) m₂
  lift_low m₂ p =
      let a = d.cfl.later in
      let b = d.cgl.later in
      let atf = var_kept ns n₁ (fl / 2) d.grown d.cfl.inside in
      let atg = var_kept ns n₁ (gl / 2) d.grown d.cgl.inside in
      let longer = d.grown.longer in
      let inf = d.cfl.inside in
      let ing = d.cgl.inside in
      news_lift (length n₁) (min (top ns f) (top ns g)) (min (top n₁ fl) (top n₁ gl)) v false (conj ns f g) (conj n₁ fl gl) m₂ p (omega arith) (omega arith)
      (λ ρ t. ap₂ ◌&&◌ (eval_kept ns n₁ ρ fl d.good d.grown d.cfl.inside ∙ d.cfl.value_is ρ t) (eval_kept ns n₁ ρ gl d.good d.grown d.cgl.inside ∙ d.cgl.value_is ρ t))
      (λ ρ. ap₂ ◌&&◌ (eval_upd n₁ ρ v false fl d.good₁ (omega arith) (omega arith)) (eval_upd n₁ ρ v false gl d.good₁ (omega arith) (omega arith)))

  pub parts_two : (m₂ : List Node) → Grown n₁ m₂ → Parts ns n₁ fh gh → Parts n₁ m₂ fl gl → Parts ns m₂ f g
  parts_two m₂ g₂ ph pl = news_join (length ns) (min (top ns f) (top ns g)) (conj ns f g) n₁ m₂ d.good₁ g₂ (lift_high n₁ ph) (lift_low m₂ pl)

  pub both_three : (n₂ m₃ : List Node) (h l r : ℕ) → Grown n₁ n₂ → Both ns n₁ fh gh h → Both n₁ n₂ fl gl l → Made n₂ m₃ v h l r → Both ns m₃ f g r
  both_three n₂ m₃ h l r g₂ bh bl made = both_step ns n₁ n₂ m₃ f g v fh gh fl gl h l r d.good d.good₁ d.grown g₂ d.vis d.cfh d.cgh d.cfl d.cgl bh bl made

  pub parts_three : (n₂ m₃ : List Node) (h l r : ℕ) → Good n₂ → Grown n₁ n₂ → Grown n₂ m₃ → Parts ns n₁ fh gh → Parts n₁ n₂ fl gl
      → Both ns n₁ fh gh h → Both n₁ n₂ fl gl l → Made n₂ m₃ v h l r → Parts ns m₃ f g
  parts_three n₂ m₃ h l r good₂ g₂ g₃ ph pl bh bl made =
      news_join (length ns) (min (top ns f) (top ns g)) (conj ns f g) n₂ m₃ good₂ g₃ (parts_two n₂ g₂ ph pl)
      (subst (λ w. News (length n₂) w (conj ns f g) m₃) d.vis
      (news_own ns n₂ m₃ f g v h l r d.good d.f_in d.g_in d.vis made
      (both_three n₂ m₃ h l r g₂ bh bl made)))

  pub lacking_high : Lacking ns n₁ fh gh → Lacking ns n₁ f g
  lacking_high k = record { extra = k.extra; good = k.good; parts = lift_high (n₁ ++ k.extra ∷ []) k.parts }

  pub lacking_low : (n₂ : List Node) → Grown n₁ n₂ → Parts ns n₁ fh gh → Lacking n₁ n₂ fl gl → Lacking ns n₂ f g
  lacking_low n₂ g₂ ph k = record { extra = k.extra; good = k.good; parts = parts_two (n₂ ++ k.extra ∷ []) (grown_on n₁ n₂ (n₂ ++ k.extra ∷ []) g₂ (grown_push n₂ k.extra)) ph k.parts }

  pub lacking_own : (n₂ : List Node) (h l : ℕ) → Good n₂ → Grown n₁ n₂ → Parts ns n₁ fh gh → Parts n₁ n₂ fl gl
      → Both ns n₁ fh gh h → Both n₁ n₂ fl gl l → Short n₂ v h l → Lacking ns n₂ f g
  lacking_own n₂ h l good₂ g₂ ph pl bh bl s = record {
    extra = s.extra;
    good = s.good;
    parts = parts_three n₂ (n₂ ++ s.extra ∷ []) h l s.result good₂ g₂ (grown_push n₂ s.extra) ph pl bh bl s.made;
  }
