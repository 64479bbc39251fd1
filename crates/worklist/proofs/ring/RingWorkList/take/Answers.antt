-- A take from a ring: the oldest item, and `first` goes on by one, or round to the start.
use Rattle.std.proofs.Common.{rules, ◌≡◌, ℕ, ◌+◌, ◌-◌, ◌<◌, ◌≤◌, [], ◌∷◌, length, take, Some, None, sym, ap, ◌∙◌, subst, arith}
use Rattle.worklist.specs.Queues.{around, Circle}
use Rattle.worklist.specs.declared.ring.Ring.{Ring}
use Rattle.worklist.proofs.Circles.{leaves_on, around_all}
use Rattle.worklist.proofs.Promises.{ring_take, took_oldest}
use Rattle.worklist.proofs.ring.RingWorkList.take.Goals as goal
use Rattle.worklist.proofs.ring.RingWorkList.take.Goals.{then-self-slots, else-self-slots}

pub returns-then-self-eq0-clause-promise : goal.returns-then-self-eq0-clause-promise
returns-then-self-eq0-clause-promise g c =
    let xs = c.args.slots.now in
    let n = c.args.self.now.count in
    let bag = take n (around c.args.self.now.first xs) in
    let none : bag ≡ [] = ap (λ (k : ℕ). take k (around c.args.self.now.first xs)) c.if-self-eq0.true in
    ring_take (length xs) bag None bag (none, none)

pub returns : goal.returns
returns g c =
    let xs = c.args.slots.now in
    let first = c.args.self.now.first in
    let m = c.args.self.now.count in
    let n = m - 1 in
    let x = c.index-slots-self.result in
    let r = c.if-self-slots.self in
    let fits : m ≤ length xs = c.requires.fits in
    let z : 0 < m = omega arith in
    let e : n + 1 ≡ m = omega arith in
    let in' : first < length xs = c.requires.within (omega arith) in
    let bag = take m (around first xs) in
    let P : Ring → Type 0 = λ s. Circle s.first s.count xs × (bag ≡ x ∷ take s.count (around s.first xs)) in
    let on : bag ≡ x ∷ take n (around (first + 1) xs) = ap (λ (k : ℕ). take k (around first xs)) (sym e) ∙ leaves_on xs first n x in' (omega arith) c.index-slots-self.is in
    let both : P r =
    elim c.if-self-slots.branch [
      | then-self-slots w ↦ subst P (sym w.self-is) (record { fits = omega arith; within = λ h. h }, on ∙ ap (λ l. x ∷ take n l) (around_all xs (first + 1) w.if-self-slots.true))
      | else-self-slots w ↦ subst P (sym w.self-is) (record { fits = omega arith; within = λ _. omega arith }, on)
    ] in
    record {
      keeps = both.0;
      takes = took_oldest bag (Some x) (take r.count (around r.first xs)) both.1;
      leaves = both.1;
      rests = search rules;
      clears = search rules;
      promise = ring_take (length xs) bag (Some x) (take r.count (around r.first xs)) both.1;
    }
