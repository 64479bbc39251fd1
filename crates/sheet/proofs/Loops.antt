-- What a loop over records keeps.
use Rattle.std.proofs.Common.{◌≡◌, ℕ, zero, suc, ◌+◌, ◌<◌, ◌≤◌, Bool, List, [], ◌∷◌, ◌++◌, length, Ok, Err, sym, refl, ap, ◌∙◌, subst, add-one, arith}
use Rattle.std.proofs.lemmas.List.{length_push}
use Rattle.sheet.specs.declared.fault.FieldFault.{FieldFault}
use Rattle.sheet.specs.declared.fault.Flaw.TheVariants.{Count}
use Rattle.sheet.specs.declared.reader.Reader.{Reader}
use Rattle.sheet.specs.Reading.{Read, got, bad, and_then, Wrong, number, judged, records}
use Rattle.sheet.specs.View.{left, counted, Step, StepBy}
use Rattle.sheet.proofs.Fields.{parts, chain}

pub broken : {F X Y : Type 0} {o : Read F X} {w : F} (f : X → List ℕ → Read F Y) → o ≡ bad w → and_then o f ≡ bad w
broken f e = ap (λ o. and_then o f) e

-- from `start` on, `k` records have been read
pub record SoFar {X : Type 0} (next : List X → List ℕ → Read Wrong X) (start : Reader) (k : ℕ) (at : Reader) : Type 0 where
  pub done : List X
  pub sheet : at.sheet.now ≡ start.sheet.now
  pub long : length done ≡ k
  pub reads : records next k [] (left start) ≡ got done (left at)

abbrev section : {X : Type 0} → (List X → List ℕ → Read Wrong X) → (ℕ → Bool) → List ℕ → Read Wrong (List X)
section next ok xs = and_then (judged number ok Count xs) (λ n rest. records next n [] rest)

module _ {X : Type 0} (next : List X → List ℕ → Read Wrong X) where
  -- one more record after `k`
  records_more : (k : ℕ) (before done : List X) (xs ys : List ℕ) (x : X) (zs : List ℕ) → records next k before xs ≡ got done ys → next done ys ≡ got x zs → records next (suc k) before xs ≡ got (done ++ x ∷ []) zs
  records_more zero before done xs ys x zs e h =
      let same : before ≡ done = cc in
      let left : xs ≡ ys = cc in
      let here : next before xs ≡ got x zs = cc in
      chain _ here (ap (λ l. got (l ++ x ∷ []) zs) same)
  records_more (suc k) before done xs ys x zs e h =
      let p = parts (next before xs) _ done ys e in
      chain _ p.first (records_more k (before ++ p.value ∷ []) done p.rest ys x zs p.then h)

  -- a fault after `k` of `n` records is the fault of them all
  records_bad : (k n : ℕ) (before done : List X) (xs ys : List ℕ) (w : Wrong) → k < n → records next k before xs ≡ got done ys → next done ys ≡ bad w → records next n before xs ≡ bad w
  records_bad zero zero before done xs ys w l e h = absurd (omega arith)
  records_bad (suc k) zero before done xs ys w l e h = absurd (omega arith)
  records_bad zero (suc n) before done xs ys w l e h =
      let same : before ≡ done = cc in
      let left : xs ≡ ys = cc in
      let here : next before xs ≡ bad w = cc in
      broken _ here
  records_bad (suc k) (suc n) before done xs ys w l e h =
      let p = parts (next before xs) _ done ys e in
      chain _ p.first (records_bad k n (before ++ p.value ∷ []) done p.rest ys w (omega arith) p.then h)

  pub none : (start : Reader) → SoFar next start 0 start
  none start = record { done = []; sheet = refl; long = refl; reads = refl }

  pub more : {Y : Type 0} (view : Y → X) (start : Reader) (k : ℕ) (at after : Reader) (y : Y) (s : SoFar next start k at) → StepBy view (next s.done) at (Ok y) after → SoFar next start (k + 1) after
  more view start k at after y s h = record {
    done = s.done ++ view y ∷ [];
    sheet = h.sheet ∙ s.sheet;
    long = length_push s.done (view y) ∙ ap (λ n. n + 1) s.long;
    reads = rw add-one (records_more k [] s.done (left start) (left at) (view y) (left after) s.reads (sym h.reads));
  }

  pub all : (ok : ℕ → Bool) (before start : Reader) (n : ℕ) (at : Reader) → Step (judged number ok Count) before (Ok n) start → SoFar next start n at → Step (λ xs. counted (section next ok xs)) before (Ok n) at
  all ok before start n at c s = record {
    sheet = s.sheet ∙ c.sheet;
    reads = sym (ap counted (chain _ (sym c.reads) s.reads) ∙ ap (λ m. got m (left at)) s.long);
    inside = tt;
  }

  pub stopped : {Y : Type 0} (view : Y → X) (ok : ℕ → Bool) (before start : Reader) (n k : ℕ) (at after : Reader) (e : FieldFault) → Step (judged number ok Count) before (Ok n) start → (s : SoFar next start k at) → k < n
      → StepBy view (next s.done) at (Err e) after → Step (λ xs. counted (section next ok xs)) before (Err e) after
  stopped view ok before start n k at after e c s l h = record {
    sheet = h.sheet ∙ s.sheet ∙ c.sheet;
    reads = sym (ap counted (chain _ (sym c.reads) (records_bad k n [] s.done (left start) (left at) _ l s.reads (sym h.reads))));
    inside = subst (λ l. e.place ≤ length l) (s.sheet ∙ c.sheet) h.inside;
  }
