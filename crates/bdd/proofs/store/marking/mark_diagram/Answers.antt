-- The marks stay closed when the children of a marked node are marked.
use Rattle.std.proofs.Common.{◌≡◌, ℕ, ◌+◌, ◌<◌, ◌++◌, Bool, false, List, drop, refl, ◌∙◌, length-append, ◌/◌, ◌≤◌, length, sym, subst, arith, rules}
use Rattle.std.proofs.lemmas.List.{get_or_append_left, length-take-le}
use Rattle.bdd.specs.Marking.{at, Marks}
use Rattle.bdd.proofs.Marked.{turn_start, turn_marked}
use Rattle.bdd.proofs.store.marking.mark_diagram.Goals as goal

pub loop-i-init : goal.loop-i-init
loop-i-init c =
    let n : ℕ = c.place_of-n.result in
    let half : n ≡ c.args.e / 2 = c.place_of-n.ensures in
    let front : List Bool = c.fill.new.self in
    let ms : List Bool = front ++ drop n c.args.marks.now in
    let long : length front ≡ n = c.fill.ensures.len ∙ length-take-le n c.args.marks.now (omega (arith, c.requires.room)) in
    let whole : length ms ≡ length front + length (drop n c.args.marks.now) = simp length-append in
    let cleared : (k : ℕ) → k < c.args.e / 2 → at ms k ≡ false = λ k h. get_or_append_left front (drop n c.args.marks.now) false k (omega arith) ∙ c.fill.ensures.clones k false (omega arith) refl in
    subst (λ i. Marks c.args.nodes.now c.args.e (c.args.e / 2) i (at c.mark.new.marks)) (sym half)
    (turn_start c.args.nodes.now c.args.e ms c.mark.new.marks c.requires.good c.requires.within (omega arith) cleared c.mark.ensures)

pub loop-i-preserved-then-marks-i : goal.loop-i-preserved-then-marks-i
loop-i-preserved-then-marks-i c =
    let room : c.args.e / 2 ≤ length c.loop-i.marks = search rules in
    turn_marked c.args.nodes.now c.args.e (c.args.e / 2) c.loop-i.i c.loop-i.marks c.mark_children.new.marks c.requires.good c.requires.within room c.loop-i-test.true (omega (arith, c.loop-i.auto.i, c.place_of-n.ensures)) c.loop-i.invariant c.if-marks-i.true c.mark_children.ensures
