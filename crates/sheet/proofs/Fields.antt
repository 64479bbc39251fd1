-- What a field that was read says of the bytes, and the other way round.
use Rattle.std.proofs.Common.{◌≡◌, ℕ, ◌+◌, ◌*◌, ◌/◌, ◌%◌, ◌<◌, ◌≤◌, Bool, true, false, cond, List, [], ◌∷◌, ◌++◌, length, sym, refl, ap, ◌∙◌, subst, arith}
use Rattle.std.proofs.lemmas.List.{take-append-drop, length-take-le}
use Rattle.std.proofs.lemmas.Bool.{leb-true}
use Rattle.std.specs.Int.{w16, to_be_bytes}
use Rattle.sheet.specs.declared.fault.Flaw.{Flaw}
use Rattle.sheet.specs.Reading.{Read, got, bad, and_then, Wrong, byte, number, bytes, judged}
use Rattle.sheet.specs.Format.{number_bytes}
use Rattle.sheet.specs.Laws.{Bytes}

pub record Parts {F X Y : Type 0} (o : Read F X) (f : X → List ℕ → Read F Y) (y : Y) (ys : List ℕ) : Type 0 where
  pub value : X
  pub rest : List ℕ
  pub first : o ≡ got value rest
  pub then : f value rest ≡ got y ys

-- a chain that got something got its first part
pub parts : {F X Y : Type 0} (o : Read F X) (f : X → List ℕ → Read F Y) (y : Y) (ys : List ℕ) → and_then o f ≡ got y ys → Parts o f y ys
parts (got x rest) f y ys e = record { value = x; rest = rest; first = refl; then = e }
parts (bad w) f y ys e = absurd (cc)

pub passed : {X : Type 0} (b : Bool) (x z : X) (rest ys : List ℕ) (e : Wrong) → cond b (got x rest) (bad e) ≡ got z ys → (b ≡ true) × (x ≡ z) × (rest ≡ ys)
passed true x z rest ys e h = (refl, (cc), (cc))
passed false x z rest ys e h = absurd (cc)

judged_at : {X : Type 0} (o : Read Wrong X) (ok : X → Bool) (w : Wrong) (x : X) (ys : List ℕ) → and_then o (λ z rest. cond (ok z) (got z rest) (bad w)) ≡ got x ys → (o ≡ got x ys) × (ok x ≡ true)
judged_at (bad e) ok w x ys h = absurd (cc)
judged_at (got z rest) ok w x ys h =
    let q = passed (ok z) z x rest ys w h in
    let same : z ≡ x = q.1 in
    let left : rest ≡ ys = q.2 in
    ((cc), sym (ap ok same) ∙ q.0)

pub judged_got : {X : Type 0} (field : List ℕ → Read Wrong X) (ok : X → Bool) (flaw : Flaw) (xs : List ℕ) (x : X) (ys : List ℕ) → judged field ok flaw xs ≡ got x ys → (field xs ≡ got x ys) × (ok x ≡ true)
judged_got field ok flaw xs x ys e = judged_at (field xs) ok _ x ys e

pub byte_got : (xs : List ℕ) (b : ℕ) (ys : List ℕ) → byte xs ≡ got b ys → xs ≡ b ∷ ys
byte_got [] b ys e = absurd (cc)
byte_got (x ∷ xs) b ys e = cc

pub whole_number : (n : ℕ) → 256 * (n / 256) + n % 256 ≡ n
whole_number n = omega arith

-- what std's conversions of numbers say, in the words of the format
pub two_bytes : (n : ℕ) → n < 65536 → to_be_bytes w16 n ≡ number_bytes n
two_bytes n h = let e : n / 256 % 256 ≡ n / 256 = omega arith in ap (λ m. m ∷ n % 256 ∷ []) e

pub number_got : (xs : List ℕ) (n : ℕ) (ys : List ℕ) → Bytes xs → number xs ≡ got n ys → (xs ≡ number_bytes n ++ ys) × Bytes ys
number_got [] n ys t e = absurd (cc)
number_got (h ∷ []) n ys t e = absurd (cc)
number_got (h ∷ l ∷ xs) n ys t e =
    let v : 256 * h + l ≡ n = cc in
    let r : xs ≡ ys = cc in
    let small : l < 256 = t.1.0 in
    let high : h ≡ n / 256 = omega arith in
    let low : l ≡ n % 256 = omega arith in
    ((cc), subst Bytes r t.1.1)

pub bytes_got : (n : ℕ) (xs ys zs : List ℕ) → bytes n xs ≡ got ys zs → (xs ≡ ys ++ zs) × (n ≡ length ys)
bytes_got n xs ys zs e =
    let q = passed _ _ _ _ _ _ e in
    let fits : n ≤ length xs = leb-true _ _ q.0 in
    (sym (take-append-drop n xs) ∙ (let f = q.1 in let b = q.2 in cc), sym (length-take-le n xs fits) ∙ ap length q.1)

pub chain : {F X Y : Type 0} {o : Read F X} {x : X} {rest : List ℕ} {w : Read F Y} (f : X → List ℕ → Read F Y) → o ≡ got x rest → f x rest ≡ w → and_then o f ≡ w
chain f e h = ap (λ o. and_then o f) e ∙ h

pub every_past : (xs ys : List ℕ) → Bytes (xs ++ ys) → Bytes ys
every_past [] ys t = t
every_past (x ∷ xs) ys t = every_past xs ys t.1

-- what was got is one thing
pub got_same : {F X : Type 0} {x y : X} {xs ys : List ℕ} (P : X → List ℕ → Type 0) → P x xs → ◌≡◌ {A = Read F X} (got x xs) (got y ys) → P y ys
got_same {x = x} {y = y} {xs = xs} {ys = ys} P h e =
    let a : x ≡ y = cc in
    let b : xs ≡ ys = cc in
    subst (P y) b (subst (λ z. P z xs) a h)
