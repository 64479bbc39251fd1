-- A put into a ring: the item goes into the slot behind the last, from `first` on or round to the start.
use Rattle.std.proofs.Common.{rules, ◌≡◌, ℕ, ◌+◌, ◌<◌, ◌≤◌, true, false, [], ◌∷◌, ◌++◌, length, take, set, refl, ap, ◌∙◌, arith}
use Rattle.worklist.specs.Queues.{around, behind}
use Rattle.worklist.proofs.Circles.{length_bag, joins_onward, joins_before, place_onward, place_before, still}
use Rattle.worklist.proofs.Promises.{ring_put, put_queued}
use Rattle.worklist.proofs.ring.RingWorkList.put.Goals as goal
use Rattle.worklist.proofs.ring.RingWorkList.put.Goals.{then-self-to_end, else-self-to_end}

pub returns-then-self-slots-clause-promise : goal.returns-then-self-slots-clause-promise
returns-then-self-slots-clause-promise g c =
    let xs = c.args.slots.now in
    let first = c.args.self.now.first in
    let n = c.args.self.now.count in
    let bag = take n (around first xs) in
    ring_put (length xs) bag c.args.item false bag (length_bag first n xs c.requires ∙ c.if-self-slots.true, refl)

pub returns : goal.returns
returns g c =
    let xs = c.args.slots.now in
    let ys = c.if-self-to_end.slots in
    let first = c.args.self.now.first in
    let n = c.args.self.now.count in
    let x = c.args.item in
    let fits : n ≤ length xs = c.requires.fits in
    let lt : n < length xs = omega arith in
    let in' : first < length xs = c.requires.within (omega arith) in
    let bag = take n (around first xs) in
    let room : length bag < length xs = omega (arith, length_bag first n xs c.requires) in
    let is : take (n + 1) (around first ys) ≡ bag ++ x ∷ [] =
    elim c.if-self-to_end.branch [
      | then-self-to_end w ↦ ap (λ l. take (n + 1) (around first l)) w.slots-is ∙ joins_onward xs first n x (omega arith)
      | else-self-to_end w ↦ ap (λ l. take (n + 1) (around first l)) w.slots-is ∙ joins_before xs first n x in' lt w.if-self-to_end.false
    ] in
    let wrote : ys ≡ set xs (behind first n (length xs)) x =
    elim c.if-self-to_end.branch [
      | then-self-to_end w ↦ w.slots-is ∙ ap (λ (i : ℕ). set xs i x) (place_onward first n (length xs) (omega arith))
      | else-self-to_end w ↦ w.slots-is ∙ ap (λ (i : ℕ). set xs i x) (place_before first n (length xs) in' lt w.if-self-to_end.false)
    ] in
    record {
      keeps = still first n xs ys c.requires lt c.if-self-to_end.auto.slots;
      puts = put_queued (length xs) bag x true (take (n + 1) (around first ys)) (room, is);
      joins = (room, is);
      refuses = search rules;
      stores = wrote;
      promise = ring_put (length xs) bag x true (take (n + 1) (around first ys)) (room, is);
    }
