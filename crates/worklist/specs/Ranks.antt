-- The law that the two item types owe, and what it rests on: an order that `cmp` answers by, in the words of the fields.
use Rattle.std.specs.Prelude.{◌≡◌, ℕ, ◌<◌, false, ◌⊎◌, List, [], ◌∷◌, Some, None}
use Rattle.std.specs.declared.cmp.Ordering.{Ordering}
use Rattle.std.specs.declared.cmp.Ordering.TheVariants.{Less, Equal, Greater}
use Rattle.std.specs.Cmp.{IsTotalOrder, ranks, nat_cmp_is, tied_itself}
use Rattle.std.specs.Ordering.{is_lt, ordering_then, MatchOrdering, nat_cmp}
use Rattle.std.proofs.Common.{sym, ap, subst, ◌∙◌, inl, inr, true≢false}
use Rattle.worklist.specs.Calls.{Call, put, take}
use Rattle.worklist.specs.Laws.{EachTake}
use Rattle.worklist.specs.Orders.{Least, NoLower}
use Rattle.worklist.specs.Items.{Below, Before, Earlier, Foremost, Ordered, ByPropagation, ByResubstitution, propagations, resubstitutions}
use Rattle.worklist.specs.declared.items.Propagation.{Propagation}
use Rattle.worklist.specs.declared.items.Resubstitution.{Resubstitution}

-- ---- numbers in turn

then_ranked : (L E F G L' E' G' : Type 0) (k m : Ordering) → (E → F) → MatchOrdering k L E G → MatchOrdering m L' E' G' → MatchOrdering (ordering_then k m) (L ⊎ (E × L')) (E × E') (G ⊎ (F × G'))
then_ranked L E F G L' E' G' Less m f h j = inl h
then_ranked L E F G L' E' G' Equal Less f h j = inr (h, j)
then_ranked L E F G L' E' G' Equal Equal f h j = (h, j)
then_ranked L E F G L' E' G' Equal Greater f h j = inr (f h, j)
then_ranked L E F G L' E' G' Greater m f h j = inl h

three : (a b c a' b' c' : ℕ) → MatchOrdering (ordering_then (nat_cmp a a') (ordering_then (nat_cmp b b') (nat_cmp c c'))) (Below a b c a' b' c') ((a ≡ a') × ((b ≡ b') × (c ≡ c'))) (Below a' b' c' a b c)
three a b c a' b' c' =
    then_ranked (a < a') (a ≡ a') (a' ≡ a) (a' < a) ((b < b') ⊎ ((b ≡ b') × (c < c'))) ((b ≡ b') × (c ≡ c')) ((b' < b) ⊎ ((b' ≡ b) × (c' < c)))
    (nat_cmp a a') (ordering_then (nat_cmp b b') (nat_cmp c c')) sym (ranks a a')
    (then_ranked (b < b') (b ≡ b') (b' ≡ b) (b' < b) (c < c') (c ≡ c') (c' < c) (nat_cmp b b') (nat_cmp c c') sym (ranks b b') (ranks c c'))

then_less : (a b : ℕ) (m : Ordering) → (a < b) ⊎ ((a ≡ b) × (m ≡ Less)) → ordering_then (nat_cmp a b) m ≡ Less
then_less a b m (inl h) = ap (λ k. ordering_then k m) (sym (nat_cmp_is a b Less h))
then_less a b m (inr h) = ap (λ k. ordering_then k m) (sym (nat_cmp_is a b Equal h.0)) ∙ h.1

below_less : (a b c a' b' c' : ℕ) → Below a b c a' b' c' → ordering_then (nat_cmp a a') (ordering_then (nat_cmp b b') (nat_cmp c c')) ≡ Less
below_less a b c a' b' c' (inl h) = then_less a a' (ordering_then (nat_cmp b b') (nat_cmp c c')) (inl h)
below_less a b c a' b' c' (inr (e, inl h)) = then_less a a' (ordering_then (nat_cmp b b') (nat_cmp c c')) (inr (e, then_less b b' (nat_cmp c c') (inl h)))
below_less a b c a' b' c' (inr (e, inr (f, h))) =
    then_less a a' (ordering_then (nat_cmp b b') (nat_cmp c c')) (inr (e, then_less b b' (nat_cmp c c') (inr (f, sym (nat_cmp_is c c' Less h)))))

-- ---- items

same_propagation : (x y : Propagation) → (x.size ≡ y.size) × ((x.vertex ≡ y.vertex) × (x.level ≡ y.level)) → x ≡ y
same_propagation x y h = λ i. record { size = h.0 i; vertex = h.1.0 i; level = h.1.1 i }

same_resubstitution : (x y : Resubstitution) → (x.size ≡ y.size) × ((x.side ≡ y.side) × (x.serial ≡ y.serial)) → x ≡ y
same_resubstitution x y h = λ i. record { size = h.0 i; side = h.1.0 i; serial = h.1.1 i }

by_same : (L E F G : Type 0) (k : Ordering) → (E → F) → MatchOrdering k L E G → MatchOrdering k L F G
by_same L E F G Less f h = h
by_same L E F G Equal f h = f h
by_same L E F G Greater f h = h

by_propagation : (x y : Propagation) → MatchOrdering (ByPropagation x y) (Before x y) (x ≡ y) (Before y x)
by_propagation x y = by_same (Before x y) _ (x ≡ y) (Before y x) (ByPropagation x y) (same_propagation x y) (three x.size x.vertex x.level y.size y.vertex y.level)

by_resubstitution : (x y : Resubstitution) → MatchOrdering (ByResubstitution x y) (Earlier x y) (x ≡ y) (Earlier y x)
by_resubstitution x y = by_same (Earlier x y) _ (x ≡ y) (Earlier y x) (ByResubstitution x y) (same_resubstitution x y) (three x.size x.side x.serial y.size y.side y.serial)

-- ---- an order by B, read off `cmp`

-- not less is the same, or after
after : (L E G : Type 0) (k : Ordering) → MatchOrdering k L E G → is_lt k ≡ false → E ⊎ G
after L E G Less h e = absurd (true≢false e)
after L E G Equal h e = inl h
after L E G Greater h e = inr h

which : (L E G : Type 0) (k : Ordering) → MatchOrdering k L E G → E ⊎ (L ⊎ G)
which L E G Less h = inr (inl h)
which L E G Equal h = inl h
which L E G Greater h = inr (inr h)

at_most : {X : Type 0} (B : X → X → Type 0) (x y : X) → (y ≡ x) ⊎ B x y → (x ≡ y) ⊎ B x y
at_most B x y (inl e) = inl (sym e)
at_most B x y (inr b) = inr b

each_weaker : {X : Type 0} (F G : X → List X → Type 0) → ((x : X) (xs : List X) → F x xs → G x xs) → (calls : List (Call X)) → EachTake F calls → EachTake G calls
each_weaker F G f [] h = tt
each_weaker F G f (put x r ∷ calls) h = each_weaker F G f calls h
each_weaker F G f (take None ∷ calls) h = each_weaker F G f calls h
each_weaker F G f (take (Some x) ∷ calls) h = ((h.0.0, h.0.1, f x h.0.0 h.0.2), each_weaker F G f calls h.1)

module _ {X : Type 0} {R : X → X → Ordering} (o : IsTotalOrder R) (B : X → X → Type 0) (is : (x y : X) → MatchOrdering (R x y) (B x y) (x ≡ y) (B y x)) where
  pub all_after : (x : X) (xs : List X) → Least o x xs → Foremost B x xs
  all_after x [] h = tt
  all_after x (y ∷ ys) h = (at_most B x y (after (B y x) (y ≡ x) (B x y) (R y x) (is y x) h.0), all_after x ys h.1)

  module _ (less : (x y : X) → B x y → R x y ≡ Less) where
    ordered : Ordered R B
    ordered = record {
      total = record {
        never_itself = λ x b. true≢false (ap is_lt (sym (less x x b) ∙ tied_itself o x));
        onward = λ x y z b c. subst (λ k. MatchOrdering k (B x z) (x ≡ z) (B z x)) (o.trans x y z (less x y b) (less y z c)) (is x z);
        either = λ x y. which (B x y) (x ≡ y) (B y x) (R x y) (is x y);
      };
      compares = λ x y r h. subst (λ k. MatchOrdering k (B x y) (x ≡ y) (B y x)) h (is x y);
      leads = λ calls waiting h. each_weaker (NoLower R) (Foremost B) (λ x xs low. all_after x xs (low o)) calls h;
    }

pub propagations_ordered : Ordered ByPropagation Before
propagations_ordered = ordered propagations Before by_propagation (λ x y. below_less x.size x.vertex x.level y.size y.vertex y.level)

pub resubstitutions_ordered : Ordered ByResubstitution Earlier
resubstitutions_ordered = ordered resubstitutions Earlier by_resubstitution (λ x y. below_less x.size x.side x.serial y.size y.side y.serial)
