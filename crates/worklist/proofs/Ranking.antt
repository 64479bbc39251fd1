-- What the law of items gives: a heap takes a foremost item, and two heaps asked alike answer alike.
use Rattle.std.proofs.Common.{List, Some, None, Option, Ordering, Equal, refl}
use Rattle.std.specs.Cmp.{IsTotalOrder}
use Rattle.std.proofs.lemmas.Map.Lookups.{CmpEqualImpliesEq}
use Rattle.worklist.specs.Bags.{Put}
use Rattle.worklist.specs.Laws.{Repeats}
use Rattle.worklist.specs.Orders.{TookLeast}
use Rattle.worklist.specs.Items.{TookForemost, Ordered}
use Rattle.worklist.specs.Ranks.{all_after}
use Rattle.worklist.proofs.Repeating.{heaps}

module _ {X : Type 0} {R : X → X → Ordering} (o : IsTotalOrder R) {B : X → X → Type 0} (law : Ordered R B) where
  pub foremost : (xs : List X) (r : Option X) (ys : List X) → TookLeast R xs r ys → TookForemost B xs r ys
  foremost xs None ys h = h
  foremost xs (Some x) ys h = (h.0, all_after o B (λ x y. law.compares x y (R x y) refl) x xs (h.1 o))

  exact : CmpEqualImpliesEq R
  exact x y e = law.compares x y Equal e

  pub repeat : Repeats Put (TookLeast R)
  repeat = heaps R o exact
