-- Lists of functions, where equal or opposite ones count once.
use Rattle.std.proofs.Common.{◌≡◌, ℕ, zero, suc, ◌<◌, ◌≤◌, Bool, true, false, cond, ◌||◌, ltb, ◌⊎◌, List, [], ◌∷◌, ◌++◌, sym, refl, ap, ◌∙◌, subst, ap₂, inl, inr, ⊎_elim, arith}
use Rattle.std.proofs.Math.Bool.{not-not}
use Rattle.std.proofs.lemmas.Bool.{and_parts, and_from, or_cases, cases_Bool, cases_lt, cases_eq, lt-ltb, le-ltb, false≢true, both_ways}
use Rattle.bdd.specs.Size.{Fn, one, fork, same_bit, same, opposite, known, distinct}

same_bool : (a b : Bool) → same_bit a b ≡ true → a ≡ b
same_bool true true h = refl
same_bool true false h = absurd (false≢true h)
same_bool false true h = absurd (false≢true h)
same_bool false false h = refl

same_bool_self : (a : Bool) → same_bit a a ≡ true
same_bool_self true = refl
same_bool_self false = refl

pub same_true : (t u : Fn) → same t u ≡ true → t ≡ u
same_true (one a) (one b) h = ap one (same_bool a b h)
same_true (one a) (fork z w) h = absurd (false≢true h)
same_true (fork x y) (one b) h = absurd (false≢true h)
same_true (fork x y) (fork z w) h =
    let p = and_parts (same x z) (same y w) h in
    ap₂ fork (same_true x z p.0) (same_true y w p.1)

pub same_self : (t : Fn) → same t t ≡ true
same_self (one a) = same_bool_self a
same_self (fork x y) = and_from (same x x) (same y y) (same_self x) (same_self y)

pub same_of : (t u : Fn) → t ≡ u → same t u ≡ true
same_of t u e = subst (λ x. same t x ≡ true) e (same_self t)

pub opposite_twice : (t : Fn) → opposite (opposite t) ≡ t
opposite_twice (one b) = ap one (not-not b)
opposite_twice (fork x y) = ap₂ fork (opposite_twice x) (opposite_twice y)

-- equal or opposite
abbrev pub Near : Fn → Fn → Type 0
Near t u = (t ≡ u) ⊎ (t ≡ opposite u)

pub near_sym : (t u : Fn) → Near t u → Near u t
near_sym t u (inl e) = inl (sym e)
near_sym t u (inr e) = inr (sym (ap opposite e ∙ opposite_twice u))

pub near_on : (t u w : Fn) → Near t u → Near u w → Near t w
near_on t u w (inl e) (inl d) = inl (e ∙ d)
near_on t u w (inl e) (inr d) = inr (e ∙ d)
near_on t u w (inr e) (inl d) = inr (e ∙ ap opposite d)
near_on t u w (inr e) (inr d) = inl (e ∙ ap opposite d ∙ opposite_twice w)

pub near_or_not : (t u : Fn) → Near t u ⊎ (Near t u → ⊥)
near_or_not t u = ⊎_elim
    (λ a. inl (inl (same_true t u a)))
    (λ a. ⊎_elim
    (λ b. inl (inr (same_true t (opposite u) b)))
    (λ b. inr (λ n. ⊎_elim (λ e. both_ways (same t u) a (same_of t u e)) (λ e. both_ways (same t (opposite u)) b (same_of t (opposite u) e)) n))
    (cases_Bool (same t (opposite u))))
    (cases_Bool (same t u))

abbrev pub Known : Fn → List Fn → Type 0
Known t [] = ⊥
Known t (u ∷ us) = Near t u ⊎ Known t us

pub known_is : (t : Fn) (us : List Fn) → known t us ≡ true → Known t us
known_is t [] h = absurd (false≢true h)
known_is t (u ∷ us) h = ⊎_elim
    (λ a. inl (inl (same_true t u a)))
    (λ b. ⊎_elim (λ a. inl (inr (same_true t (opposite u) a))) (λ c. inr (known_is t us c)) (or_cases (same t (opposite u)) (known t us) b))
    (or_cases (same t u) (same t (opposite u) || known t us) h)

pub known_near : (t u : Fn) (us : List Fn) → Near t u → Known u us → Known t us
known_near t u [] n k = k
known_near t u (w ∷ us) n (inl m) = inl (near_on t u w n m)
known_near t u (w ∷ us) n (inr k) = inr (known_near t u us n k)

pub known_left : (t : Fn) (us ws : List Fn) → Known t us → Known t (us ++ ws)
known_left t [] ws k = absurd k
known_left t (u ∷ us) ws (inl n) = inl n
known_left t (u ∷ us) ws (inr k) = inr (known_left t us ws k)

pub known_right : (t : Fn) (us ws : List Fn) → Known t ws → Known t (us ++ ws)
known_right t [] ws k = k
known_right t (u ∷ us) ws k = inr (known_right t us ws k)

-- the number without i
abbrev skip : ℕ → ℕ → ℕ
skip i k = cond (ltb k i) k (suc k)

skip_low : (i k : ℕ) → k < i → skip i k ≡ k
skip_low i k h = ap (λ b. cond b k (suc k)) (lt-ltb k i h)

skip_high : (i k : ℕ) → i ≤ k → skip i k ≡ suc k
skip_high i k h = ap (λ b. cond b k (suc k)) (le-ltb k i h)

skip_other : (i k : ℕ) → skip i k ≡ i → ⊥
skip_other i k e = ⊎_elim (λ h. let s = skip_low i k h in omega arith) (λ h. let s = skip_high i k h in omega arith) (cases_lt k i)

skip_below : (i k n : ℕ) → k < n → skip i k < suc n
skip_below i k n lt = ⊎_elim (λ h. let s = skip_low i k h in omega arith) (λ h. let s = skip_high i k h in omega arith) (cases_lt k i)

skip_inj : (i k l : ℕ) → skip i k ≡ skip i l → k ≡ l
skip_inj i k l e = ⊎_elim
    (λ h. let s = skip_low i k h in ⊎_elim (λ g. let r = skip_low i l g in omega arith) (λ g. let r = skip_high i l g in omega arith) (cases_lt l i))
    (λ h. let s = skip_high i k h in ⊎_elim (λ g. let r = skip_low i l g in omega arith) (λ g. let r = skip_high i l g in omega arith) (cases_lt l i))
    (cases_lt k i)

find_near : (T : ℕ → Fn) (u : Fn) (n : ℕ) → ((i : ℕ) × (i < n) × Near (T i) u) ⊎ ((i : ℕ) → i < n → Near (T i) u → ⊥)
find_near T u zero = inr (λ i h. absurd (omega arith))
find_near T u (suc n) = ⊎_elim
    (λ p. let h = p.1 in inl (p.0, omega arith, p.2))
    (λ none. ⊎_elim
    (λ a. inl (n, omega arith, a))
    (λ a. inr (λ i h. ⊎_elim (λ e. subst (λ k. Near (T k) u → ⊥) (sym e) a) (λ ne. none i (omega arith)) (cases_eq i n)))
    (near_or_not (T n) u))
    (find_near T u n)

distinct_known : (u : Fn) (us : List Fn) → known u us ≡ true → distinct (u ∷ us) ≡ distinct us
distinct_known u us h = ap (λ b. cond b (distinct us) (suc (distinct us))) h

distinct_new : (u : Fn) (us : List Fn) → known u us ≡ false → distinct (u ∷ us) ≡ suc (distinct us)
distinct_new u us h = ap (λ b. cond b (distinct us) (suc (distinct us))) h

-- functions of which no two are equal or opposite, each in the list, are no more than those that count there
pub pigeons : (us : List Fn) (n : ℕ) (T : ℕ → Fn) → ((i : ℕ) → i < n → Known (T i) us) → ((i j : ℕ) → i < n → j < n → Near (T i) (T j) → i ≡ j) → n ≤ distinct us
pigeons [] zero T k a = omega arith
pigeons [] (suc n) T k a = absurd (k 0 (omega arith))
pigeons (u ∷ us) zero T k a = omega arith
pigeons (u ∷ us) (suc n) T k a = ⊎_elim
    (λ old.
    let ih = pigeons us (suc n) T (λ i h. ⊎_elim (λ near. known_near (T i) u us near (known_is u us old)) (λ q. q) (k i h)) a in
    omega (arith, distinct_known u us old))
    (λ new. ⊎_elim
    (λ p.
    let i : ℕ = p.0 in
    let ih = pigeons us n (λ m. T (skip i m))
    (λ m h. ⊎_elim
    (λ near. absurd (skip_other i m (a (skip i m) i (skip_below i m n h) p.1 (near_on (T (skip i m)) u (T i) near (near_sym (T i) u p.2)))))
    (λ q. q)
    (k (skip i m) (skip_below i m n h)))
    (λ m l hm hl near. skip_inj i m l (a (skip i m) (skip i l) (skip_below i m n hm) (skip_below i l n hl) near)) in
    omega (arith, distinct_new u us new))
    (λ none.
    let ih = pigeons us (suc n) T (λ i h. ⊎_elim (λ near. absurd (none i h near)) (λ q. q) (k i h)) a in
    omega (arith, distinct_new u us new))
    (find_near T u (suc n)))
    (cases_Bool (known u us))
