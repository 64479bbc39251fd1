-- The two item types and their orders: by the fields in turn, so that items of equal rank are the same item.
use Rattle.std.specs.Prelude.{◌≡◌, ℕ, ◌<◌, ◌⊎◌, List, Some, None, Option}
use Rattle.std.specs.declared.cmp.Ordering.{Ordering}
use Rattle.std.specs.Cmp.{IsTotalOrder, ranks, nat_cmp_total, on_total, then_total}
use Rattle.std.specs.Ordering.{MatchOrdering, nat_cmp, ordering_then}
use Rattle.std.specs.List.{AllByRecursion}
use Rattle.worklist.specs.Bags.{Took}
use Rattle.worklist.specs.Calls.{Call}
use Rattle.worklist.specs.Laws.{EachTake, LeastFirst}
use Rattle.worklist.specs.declared.items.Propagation.{Propagation}
use Rattle.worklist.specs.declared.items.Resubstitution.{Resubstitution}

-- a is below a'; or they are equal, and b is below b'; or these are equal too, and c is below c'
abbrev pub Below : ℕ → ℕ → ℕ → ℕ → ℕ → ℕ → Type 0
Below a b c a' b' c' = (a < a') ⊎ ((a ≡ a') × ((b < b') ⊎ ((b ≡ b') × (c < c'))))

-- smaller; or of one size, and of a lower vertex; or these alike, and at a lower level
abbrev pub Before : Propagation → Propagation → Type 0
Before x y = Below x.size x.vertex x.level y.size y.vertex y.level

-- smaller; or of one size, and of the lower side; or these alike, and with a lower serial number
abbrev pub Earlier : Resubstitution → Resubstitution → Type 0
Earlier x y = Below x.size x.side x.serial y.size y.side y.serial

-- x is before each of xs, or is that item
abbrev pub Foremost : {X : Type 0} → (X → X → Type 0) → X → List X → Type 0
Foremost B x xs = AllByRecursion (λ y. (x ≡ y) ⊎ B x y) xs

-- a take of a foremost item
abbrev pub TookForemost : {X : Type 0} → (X → X → Type 0) → List X → Option X → List X → Type 0
TookForemost B xs None ys = Took xs None ys
TookForemost B xs (Some x) ys = Took xs (Some x) ys × Foremost B x xs

-- over a string of calls: each item taken was foremost among those that then waited
abbrev pub ForemostFirst : {X : Type 0} → (X → X → Type 0) → List (Call X) → List X → Type 0
ForemostFirst B calls waiting = EachTake (Foremost B) calls

-- a strict total order, in which of two different items one is below the other
pub record TotalOrder {X : Type 0} (B : X → X → Type 0) : Type 0 where
  pub never_itself : (x : X) → B x x → ⊥
  pub onward : (x y z : X) → B x y → B y z → B x z
  pub either : (x y : X) → (x ≡ y) ⊎ (B x y ⊎ B y x)

-- what comparing two numbers answers
abbrev Rank : ℕ → ℕ → Ordering
Rank a b = nat_cmp a b

-- less where a is below b, equal where they are equal, and greater where b is below a
pub rank_says : (a b : ℕ) → MatchOrdering (Rank a b) (a < b) (a ≡ b) (b < a)
rank_says = ranks

-- what the derived `cmp` answers: `ordering_then` goes on to the next field where one is equal
abbrev pub ByPropagation : Propagation → Propagation → Ordering
ByPropagation x y = ordering_then (Rank x.size y.size) (ordering_then (Rank x.vertex y.vertex) (Rank x.level y.level))

abbrev pub ByResubstitution : Resubstitution → Resubstitution → Ordering
ByResubstitution x y = ordering_then (Rank x.size y.size) (ordering_then (Rank x.side y.side) (Rank x.serial y.serial))

-- these are total orders
abbrev pub propagations : IsTotalOrder ByPropagation
propagations = then_total (on_total (λ (p : Propagation). p.size) nat_cmp_total) (then_total (on_total (λ (p : Propagation). p.vertex) nat_cmp_total) (on_total (λ (p : Propagation). p.level) nat_cmp_total))

abbrev pub resubstitutions : IsTotalOrder ByResubstitution
resubstitutions = then_total (on_total (λ (p : Resubstitution). p.size) nat_cmp_total) (then_total (on_total (λ (p : Resubstitution). p.side) nat_cmp_total) (on_total (λ (p : Resubstitution). p.serial) nat_cmp_total))

-- comparing by R is comparing by B, with equal rank for the same item alone
abbrev pub Compares : {X : Type 0} → (X → X → Ordering) → (X → X → Type 0) → Type 0
Compares {X} R B = (x y : X) (r : Ordering) → R x y ≡ r → MatchOrdering r (B x y) (x ≡ y) (B y x)

-- the order of an item type: B is total, and is what is compared by and what a heap takes its items by
pub record Ordered {X : Type 0} (R : X → X → Ordering) (B : X → X → Type 0) : Type 0 where
  pub total : TotalOrder B
  pub compares : Compares R B
  pub leads : (calls : List (Call X)) (waiting : List X) → LeastFirst R calls waiting → ForemostFirst B calls waiting
