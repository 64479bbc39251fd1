-- The steps of a conjunction.
use Rattle.std.proofs.Common.{◌≡◌, ℕ, zero, suc, ◌+◌, ◌/◌, ◌<◌, ◌≤◌, min, true, false, ◌&&◌, ◌⊎◌, List, length, sym, refl, ap, ◌∙◌, ap₂, ⊎_elim, arith}
use Rattle.std.proofs.Math.Bool.{and_self, and-true, and-false, not-and_self}
use Rattle.std.proofs.lemmas.Bool.{cases_Bool}
use Rattle.bdd.specs.declared.store.nodes.Node.{Node}
use Rattle.bdd.specs.declared.store.Table.{Table}
use Rattle.bdd.specs.Diagram.{flip, eval, var_at, top, Good, Grown}
use Rattle.bdd.specs.Steps.{Cofactor, Made, Both}
use Rattle.bdd.specs.Contents.{Kept, nodes_of}
use Rattle.bdd.proofs.Values.{eval_false, eval_true, eval_flip, eval_kept, var_kept, grown_self, grown_on}

pub kept_self : (t : Table) → Kept t t
kept_self t = record { grown = grown_self (nodes_of t); limit_is = refl; marks_is = refl; images_is = refl }

pub kept_on : (t u w : Table) → Kept t u → Kept u w → Kept t w
kept_on t u w k l = record { grown = grown_on (nodes_of t) (nodes_of u) (nodes_of w) k.grown l.grown; limit_is = l.limit_is ∙ k.limit_is; marks_is = l.marks_is ∙ k.marks_is; images_is = l.images_is ∙ k.images_is }

pub var_bound : (ns : List Node) (j : ℕ) → Good ns → j ≤ length ns → var_at ns j ≤ 4096
var_bound ns zero good h = omega arith
var_bound ns (suc i) good h = let b = (good.fits i h).bounded in omega arith

pub var_inner : (ns : List Node) (j : ℕ) → Good ns → j ≤ length ns → 0 < j → var_at ns j < 4096
var_inner ns zero good h p = absurd (omega arith)
var_inner ns (suc i) good h p = (good.fits i h).bounded

pub both_f : (ns : List Node) (f g : ℕ) → f / 2 ≤ length ns → (f ≡ g) ⊎ (g ≡ 1) → Both ns ns f g f
both_f ns f g inside which = record {
  inside = inside;
  first = λ v hf hg. hf;
  value_is = λ ρ. ⊎_elim
      (λ e. sym (and_self (eval ns ρ f)) ∙ ap (λ x. eval ns ρ f && eval ns ρ x) e)
      (λ e. sym (and-true (eval ns ρ f)) ∙ ap (λ b. eval ns ρ f && b) (sym (ap (eval ns ρ) e ∙ eval_true ns ρ)))
      which;
}

pub both_g : (ns : List Node) (f g : ℕ) → g / 2 ≤ length ns → f ≡ 1 → Both ns ns f g g
both_g ns f g inside e = record {
  inside = inside;
  first = λ v hf hg. hg;
  value_is = λ ρ. ap (λ b. b && eval ns ρ g) (sym (ap (eval ns ρ) e ∙ eval_true ns ρ));
}

pub both_none : (ns : List Node) (f g : ℕ) → Good ns → f / 2 ≤ length ns → (f ≡ 0) ⊎ ((g ≡ 0) ⊎ (f ≡ flip g)) → Both ns ns f g 0
both_none ns f g good inside which = record {
  inside = omega arith;
  first = λ v hf hg. let b = var_bound ns (f / 2) good inside in omega arith;
  value_is = λ ρ. eval_false ns ρ ∙ ⊎_elim
      (λ e. ap (λ b. b && eval ns ρ g) (sym (ap (eval ns ρ) e ∙ eval_false ns ρ)))
      (⊎_elim
      (λ e. sym (and-false (eval ns ρ f)) ∙ ap (λ b. eval ns ρ f && b) (sym (ap (eval ns ρ) e ∙ eval_false ns ρ)))
      (λ e. sym (not-and_self (eval ns ρ g)) ∙ ap (λ b. b && eval ns ρ g) (sym (ap (eval ns ρ) e ∙ eval_flip ns ρ g))))
      which;
}

pub both_step : (ns n₁ n₂ n₃ : List Node) (f g v fh gh fl gl h l r : ℕ)
    → Good ns → Good n₁ → Grown ns n₁ → Grown n₁ n₂
    → v ≡ min (top ns f) (top ns g)
    → Cofactor ns f v true fh → Cofactor ns g v true gh → Cofactor ns f v false fl → Cofactor ns g v false gl
    → Both ns n₁ fh gh h → Both n₁ n₂ fl gl l → Made n₂ n₃ v h l r → Both ns n₃ f g r
both_step ns n₁ n₂ n₃ f g v fh gh fl gl h l r good good₁ grown grown₁ vis cfh cgh cfl cgl bh bl made = record {
  inside = made.inside;
  first = λ w hf hg. let m = made.first in omega arith;
  value_is = λ ρ. ⊎_elim
      (λ t. made.high_is ρ t ∙ eval_kept n₁ n₂ ρ h good₁ grown₁ bh.inside ∙ bh.value_is ρ ∙ ap₂ ◌&&◌ (cfh.value_is ρ t) (cgh.value_is ρ t))
      (λ t. made.low_is ρ t ∙ bl.value_is ρ
      ∙ ap₂ ◌&&◌ (eval_kept ns n₁ ρ fl good grown cfl.inside ∙ cfl.value_is ρ t) (eval_kept ns n₁ ρ gl good grown cgl.inside ∙ cgl.value_is ρ t))
      (cases_Bool (ρ v));
}

-- the result of a part looks at v no more
pub later_high : (ns n₁ n₂ : List Node) (v fh gh h : ℕ) → Grown n₁ n₂ → v < top ns fh → v < top ns gh → Both ns n₁ fh gh h → v < top n₂ h
later_high ns n₁ n₂ v fh gh h grown lf lg b =
    let at = var_kept n₁ n₂ (h / 2) grown b.inside in
    let m = b.first (v + 1) (omega arith) (omega arith) in
    omega arith

pub later_low : (ns n₁ n₂ : List Node) (v fl gl l : ℕ) → Grown ns n₁ → fl / 2 ≤ length ns → gl / 2 ≤ length ns → v < top ns fl → v < top ns gl → Both n₁ n₂ fl gl l → v < top n₂ l
later_low ns n₁ n₂ v fl gl l grown inf ing lf lg b =
    let atf = var_kept ns n₁ (fl / 2) grown inf in
    let atg = var_kept ns n₁ (gl / 2) grown ing in
    let m = b.first (v + 1) (omega arith) (omega arith) in
    omega arith
