-- The least variable above a bound of the marked nodes.
use Rattle.std.proofs.Common.{◌≡◌, ℕ, zero, suc, ◌<◌, ◌≤◌, min, Bool, true, false, cond, ltb, ◌&&◌, List, [], ◌∷◌, length, take, map, sym, refl, ap, ◌∙◌, subst, inl, inr, ⊎_elim, arith, MatchOption}
use Rattle.std.specs.List.{filter, fold, reduce, zip}
use Rattle.std.proofs.lemmas.List.{get_or-take, length-take-le}
use Rattle.std.proofs.lemmas.Bool.{cases_Bool, cases_lt, lt-ltb, ltb-true, and_from, and_parts}
use Rattle.bdd.specs.declared.store.nodes.Node.{Node}
use Rattle.bdd.specs.Diagram.{node, node_at}
use Rattle.bdd.specs.Size.{In}
use Rattle.bdd.specs.Marking.{at}
use Rattle.bdd.specs.Reading.{least_of}
use Rattle.bdd.proofs.Values.{cases_map}

-- of the first n nodes, none of those marked has a variable above the bound
abbrev pub NoneAbove : List Node → (ℕ → Bool) → ℕ → ℕ → Type 0
NoneAbove ns m n bound = (k : ℕ) → k < n → m k ≡ true → bound < (node_at ns k).var → ⊥

-- of the first n nodes, r is the least variable above the bound of those marked
pub record Least (ns : List Node) (m : ℕ → Bool) (n bound r : ℕ) : Type 0 where
  pub least : (k : ℕ) → k < n → m k ≡ true → bound < (node_at ns k).var → r ≤ (node_at ns k).var
  pub place : ℕ
  pub inside : place < n
  pub marked : m place ≡ true
  pub var_is : (node_at ns place).var ≡ r
  pub above : bound < r

abbrev passes : ℕ → Node × Bool → Bool
passes bound p = p.1 && ltb bound p.0.var

-- the variables that the least is taken of
abbrev found : ℕ → List (Node × Bool) → List ℕ
found bound ps = map (λ p. p.0.var) (filter (passes bound) ps)

found_yes : (bound : ℕ) (p : Node × Bool) (ps : List (Node × Bool)) → passes bound p ≡ true → found bound (p ∷ ps) ≡ p.0.var ∷ found bound ps
found_yes bound p ps t = ap (λ b. map (λ q. q.0.var) (cond b (p ∷ filter (passes bound) ps) (filter (passes bound) ps))) t

found_no : (bound : ℕ) (p : Node × Bool) (ps : List (Node × Bool)) → passes bound p ≡ false → found bound (p ∷ ps) ≡ found bound ps
found_no bound p ps f = ap (λ b. map (λ q. q.0.var) (cond b (p ∷ filter (passes bound) ps) (filter (passes bound) ps))) f

reaches : (bound : ℕ) (ns : List Node) (ms : List Bool) (k : ℕ) → k < length ns → k < length ms → at ms k ≡ true → bound < (node_at ns k).var → In (node_at ns k).var (found bound (zip ns ms))
reaches bound [] ms k h h' mark above = absurd (omega arith)
reaches bound (n ∷ ns) [] k h h' mark above = absurd (omega arith)
reaches bound (n ∷ ns) (b ∷ bs) zero h h' mark above =
    subst (In n.var) (sym (found_yes bound (n, b) (zip ns bs) (and_from b (ltb bound n.var) mark (lt-ltb bound n.var above)))) (inl refl)
reaches bound (n ∷ ns) (b ∷ bs) (suc k) h h' mark above =
    let rest = reaches bound ns bs k (omega arith) (omega arith) mark above in
    ⊎_elim
    (λ t. subst (In (node_at ns k).var) (sym (found_yes bound (n, b) (zip ns bs) t)) (inr rest))
    (λ f. subst (In (node_at ns k).var) (sym (found_no bound (n, b) (zip ns bs) f)) rest)
    (cases_Bool (passes bound (n, b)))

-- where a variable that is found stands
record Source (bound : ℕ) (ns : List Node) (ms : List Bool) (x : ℕ) : Type 0 where
  place : ℕ
  in_ns : place < length ns
  in_ms : place < length ms
  marked : at ms place ≡ true
  var_is : (node_at ns place).var ≡ x
  above : bound < x

later : (bound : ℕ) (n : Node) (ns : List Node) (b : Bool) (bs : List Bool) (x : ℕ) → Source bound ns bs x → Source bound (n ∷ ns) (b ∷ bs) x
later bound n ns b bs x s =
    let h = s.in_ns in
    let h' = s.in_ms in
    record { place = suc s.place; in_ns = omega arith; in_ms = omega arith; marked = s.marked; var_is = s.var_is; above = s.above }

comes : (bound : ℕ) (ns : List Node) (ms : List Bool) (x : ℕ) → In x (found bound (zip ns ms)) → Source bound ns ms x
comes bound [] ms x i = absurd i
comes bound (n ∷ ns) [] x i = absurd i
comes bound (n ∷ ns) (b ∷ bs) x i = ⊎_elim
    (λ t.
    let both = and_parts b (ltb bound n.var) t in
    ⊎_elim
    (λ e. let over = ltb-true bound n.var both.1 in record { place = 0; in_ns = omega arith; in_ms = omega arith; marked = both.0; var_is = sym e; above = omega arith })
    (λ r. later bound n ns b bs x (comes bound ns bs x r))
    (subst (In x) (found_yes bound (n, b) (zip ns bs) t) i))
    (λ f. later bound n ns b bs x (comes bound ns bs x (subst (In x) (found_no bound (n, b) (zip ns bs) f) i)))
    (cases_Bool (passes bound (n, b)))

-- a fold by min is the least of the numbers, and one of them
record LeastOf (x : ℕ) (xs : List ℕ) (r : ℕ) : Type 0 where
  first : r ≤ x
  others : (y : ℕ) → In y xs → r ≤ y
  is_one : In r (x ∷ xs)

fold_min : (x : ℕ) (xs : List ℕ) → LeastOf x xs (fold min x xs)
fold_min x [] = record { first = omega arith; others = λ y i. absurd i; is_one = inl refl }
fold_min x (y ∷ ys) =
    let r : ℕ = fold min (min x y) ys in
    let l : LeastOf (min x y) ys r = fold_min (min x y) ys in
    let f = l.first in
    record {
      first = omega arith;
      others = λ z i. ⊎_elim (λ e. omega arith) (λ h. l.others z h) i;
      is_one = ⊎_elim
          (λ e. ⊎_elim (λ lt. inl (omega arith)) (λ ge. inr (inl (omega arith))) (cases_lt x y))
          (λ h. inr (inr h))
          l.is_one;
    }

reduced : (bound : ℕ) (ns : List Node) (ms : List Bool) (xs : List ℕ) → length ns ≡ length ms
    → ((k : ℕ) → k < length ns → at ms k ≡ true → bound < (node_at ns k).var → In (node_at ns k).var xs)
    → ((x : ℕ) → In x xs → Source bound ns ms x)
    → MatchOption (reduce min xs) (NoneAbove ns (at ms) (length ns) bound) (Least ns (at ms) (length ns) bound)
reduced bound ns ms [] same all from = λ k h mark above. all k h mark above
reduced bound ns ms (x ∷ xs) same all from =
    let l = fold_min x xs in
    let s = from (fold min x xs) l.is_one in
    record {
      least = λ k h mark above. ⊎_elim (λ e. let f = l.first in omega arith) (λ i. l.others (node_at ns k).var i) (all k h mark above);
      place = s.place;
      inside = s.in_ns;
      marked = s.marked;
      var_is = s.var_is;
      above = s.above;
    }

-- what the chain of `least_above` gives
pub least_of_is : (ns : List Node) (ms : List Bool) (n bound : ℕ) → n ≤ length ns → n ≤ length ms
    → MatchOption (least_of (take n ns) (take n ms) bound) (NoneAbove ns (at ms) n bound) (Least ns (at ms) n bound)
least_of_is ns ms n bound in-ns in-ms =
    let long : length (take n ns) ≡ n = length-take-le n ns in-ns in
    let wide : length (take n ms) ≡ n = length-take-le n ms in-ms in
    let node_is : (k : ℕ) → k < n → node_at (take n ns) k ≡ node_at ns k = λ k h. get_or-take n ns k (node 0 0 0) h in
    let mark_is : (k : ℕ) → k < n → at (take n ms) k ≡ at ms k = λ k h. get_or-take n ms k false h in
    let xs : List ℕ = found bound (zip (take n ns) (take n ms)) in
    cases_map (reduce min xs) (NoneAbove (take n ns) (at (take n ms)) (length (take n ns)) bound) (NoneAbove ns (at ms) n bound)
    (Least (take n ns) (at (take n ms)) (length (take n ns)) bound) (Least ns (at ms) n bound)
    (λ none k h mark above. none k (omega arith) (mark_is k h ∙ mark) (subst (λ x. bound < x.var) (sym (node_is k h)) above))
    (λ r l.
    let lt = l.inside in
    let h : l.place < n = omega arith in
    record {
      least = λ k h mark above. subst (λ x. r ≤ x.var) (node_is k h) (l.least k (omega arith) (mark_is k h ∙ mark) (subst (λ x. bound < x.var) (sym (node_is k h)) above));
      place = l.place;
      inside = h;
      marked = sym (mark_is l.place h) ∙ l.marked;
      var_is = sym (ap (λ x. x.var) (node_is l.place h)) ∙ l.var_is;
      above = l.above;
    })
    (reduced bound (take n ns) (take n ms) xs (long ∙ sym wide) (λ k h mark above. reaches bound (take n ns) (take n ms) k h (omega arith) mark above) (λ x i. comes bound (take n ns) (take n ms) x i))
