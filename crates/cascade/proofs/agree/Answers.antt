-- Where each code was found to agree, all codes agree: the search keeps the two nets and their graph, and changes only
-- the words of workspace.
use Rattle.std.proofs.Common.{◌≡◌, ℕ, ◌^◌, ◌<◌, Bool, true, false, T, List, Option, Some, None, MatchOption, sym, refl, ap, ◌∙◌, subst, arith, rules}
use borrow.Author.Tests.{tests}
use denote.Param.Members.{Mut}
use Rattle.std.specs.declared.ops.Range.{Range}
use Rattle.std.specs.Fn.{Called}
use Rattle.std.specs.Iterator.{YieldsThen}
use Rattle.std.specs.List.{All, FoldsTo, range_with_len}
use Rattle.std.proofs.iter.Yields.{nat_range_steps}
use Rattle.std.proofs.lemmas.Nat.{one_shl}
use Rattle.std.proofs.lemmas.Fn.{chained_keeps}
use Rattle.std.proofs.lemmas.List.{map-id}
use Rattle.std.proofs.lemmas.List.Elements.{All-nil, All-push, All-same, All-get_or}
use Rattle.std.proofs.lemmas.List.FromFn.{length-range_with_len, get_or-range_with_len}
use Rattle.std.proofs.lemmas.Iterator.{YieldsList, YieldsList-from_range, items_from_drains}
use Rattle.aig.specs.Values.{value}
use Rattle.aig.specs.Graphs.{inputs_of, vertices}
use Rattle.aig.proofs.Codes.{agree_all}
use Rattle.cascade.specs.contracts.fn.agree.all as closure
use Rattle.cascade.proofs.agree.Goals as goal

-- what `all` tested of each number below `n`, by a closure that keeps I
tested : {F : Type 0} (g : Mut F (ℕ × Unit {0}) Bool) (I : F → Type 0) (P : ℕ → Type 0) → ((p q : F) (x : ℕ) → I p → Called g p (x, tt) true q → I q × P x)
    → (s u : Range ℕ) (n : ℕ) → YieldsList nat_range_steps (λ x. x) s (range_with_len 0 n)
    → (f : F) → I f → (xs : List ℕ) (o : Option ℕ) (j : F) → YieldsThen nat_range_steps s xs o u → FoldsTo (λ p x q. Called g p (x, tt) true q) f xs j
    → (r : Bool) → MatchOption o (r ≡ true) (λ x. (r ≡ false) × ((h : F) × Called g j (x, tt) false h)) → T r → (k : ℕ) → k < n → P k
tested g I P keeps s u n e f i xs None j y z r m t k h =
    let kept = chained_keeps _ (λ ys q. I q × All P ys) (λ ys q x v a c. (let b = keeps q v x a.0 c in (b.0, All-push P ys x a.1 b.1))) xs f j (i, All-nil P) z in
    let same : xs ≡ range_with_len 0 n = sym (map-id xs) ∙ items_from_drains xs (y.0, y.1, λ _. (u, y.2)) e in
    subst P (get_or-range_with_len 0 n k 0 h ∙ omega arith)
    (All-get_or P (range_with_len 0 n) k 0 (omega (arith, length-range_with_len 0 n)) (All-same P (range_with_len 0 n) xs (sym same) kept.1))
tested g I P keeps s u n e f i xs (Some x) j y z r m t k h = absurd (subst T m.0 t)

pub returns : goal.returns
returns c =
    let d = c.all.ensures.ran in
    let n = inputs_of c.args.graph.now in
    let t = vertices c.args.graph.now in
    λ e. agree_all n t c.args.graph.now.earlier c.args.x.0 c.args.y.0 c.requires.first c.requires.second
    (tested _ (λ q. (let l = closure.captures q in (l.graph.now ≡ c.args.graph.now) × (l.x ≡ c.args.x) × (l.y ≡ c.args.y))) (λ code. value n t c.args.x.0 code ≡ value n t c.args.y.0 code)
    (λ p q x i r. search (rules, tests)) _ _ (2 ^ n) (YieldsList-from_range 0 (2 ^ n) (2 ^ n) (ap {B = Range ℕ} (λ (k : ℕ). record { start = 0; end = k }) (one_shl c.inputs.result 64 (omega (arith, c.inputs.ensures, c.requires.narrow)) ∙ ap (λ (k : ℕ). 2 ^ k) c.inputs.ensures)) (omega arith)) _ (refl, refl, refl) d.0 d.1 d.2 d.3 d.4 c.all.result d.5 e)
