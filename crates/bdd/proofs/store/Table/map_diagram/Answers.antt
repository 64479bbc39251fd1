-- One image more, and a refusal as one of the whole composition.
use Rattle.std.proofs.Common.{◌≡◌, ℕ, ◌+◌, ◌*◌, ◌/◌, ◌<◌, ◌≤◌, Bool, true, false, List, length, get_or, set, vec_items, vec_len, sym, ap, ◌∙◌, subst, ⊎_elim, arith, rules}
use Rattle.std.proofs.lemmas.List.{get_or_read}
use Rattle.std.proofs.lemmas.Bool.{cases_eq, both_ways}
use Rattle.bdd.specs.declared.store.nodes.Node.{Node}
use Rattle.bdd.specs.declared.store.Table.{Table}
use Rattle.bdd.specs.Diagram.{child, node_at}
use Rattle.bdd.specs.Marking.{at, Marks}
use Rattle.bdd.specs.Contents.{nodes_of, limit_of}
use Rattle.bdd.specs.Composing.{NoRoom, Denotes, Extends, carried, composed, NodeStep, ComposeStep, Mapping}
use Rattle.bdd.proofs.Values.{none_is}
use Rattle.bdd.proofs.Composing.{room_before, room_more, extends_more, extends_on}
use Rattle.bdd.proofs.Images.{carried_denotes, place_denotes, child_image, images_more, step_kept}
use Rattle.bdd.proofs.store.Table.map_diagram.Goals as goal
use Rattle.bdd.proofs.store.Table.map_diagram.Goals.{After-index, then-index+in_ok-self, else-index}

below : (k i : ℕ) → k < i + 1 → (k ≡ i → ⊥) → k < i
below k i lt ne = omega arith

-- the node i is of the diagram's places
early : (c : After-index) → c.loop-i.i < c.args.f / 2
early c = omega (arith, c.loop-i-test.true, c.place_of-i-end.ensures)

-- the mark that the turn reads
read : (c : After-index) → c.index.result.now ≡ at (vec_items c.loop-i.self.marks) c.loop-i.i
read c =
    let u : Table = c.loop-i.self in
    let lt = early c in
    let x = c.loop-i.invariant.extends in
    let long : vec_len u.set.nodes ≡ length (nodes_of u) = search rules in
    let wide : vec_len u.marks ≡ length (vec_items u.marks) = search rules in
    let inside : c.loop-i.i < length (vec_items u.marks) = omega (arith, x.grown.longer, u.set.within, u.marks_room, c.requires.f_within) in
    get_or_read (vec_items u.marks) c.loop-i.i c.index.result.now inside c.index.ensures false

-- the image of a child of the node
child_is : (c : After-index) (b : Bool) → c.index.result.now ≡ true → Denotes (nodes_of c.loop-i.self) (carried (vec_items c.loop-i.self.images) (child (node_at (nodes_of c.loop-i.self) c.loop-i.i) b))
    (composed (nodes_of c.loop-i.self) c.args.change.var c.args.change.by (child (node_at (nodes_of c.loop-i.self) c.loop-i.i) b))
child_is c b marked =
    let t : Table = c.args.self.now in
    let u : Table = c.loop-i.self in
    let inv = c.loop-i.invariant in
    child_image (nodes_of t) (nodes_of u) (vec_items u.images) (at (vec_items u.marks)) c.args.f c.args.change.var c.args.change.by c.loop-i.i (c.args.f / 2) b t.set.good inv.extends.grown c.requires.g_within c.requires.f_within (early c)
    inv.marks (sym (read c) ∙ marked) inv.done

-- a step at the node is one of the composition's
step_of : (c : After-index) → c.index.result.now ≡ true → (φ : (ℕ → Bool) → Bool) → NodeStep (nodes_of c.loop-i.self) c.args.change.var c.args.change.by c.loop-i.i φ → ComposeStep (nodes_of c.args.self.now) c.args.f c.args.change.var c.args.change.by φ
step_of c marked φ s =
    let t : Table = c.args.self.now in
    let inv = c.loop-i.invariant in
    let lt = early c in
    record {
      at = c.loop-i.i;
      before = lt;
      of_diagram = inv.marks.part (c.loop-i.i) lt (sym (read c) ∙ marked);
      is = step_kept (nodes_of t) (nodes_of c.loop-i.self) c.args.change.var c.args.change.by c.loop-i.i t.set.good inv.extends.grown c.requires.g_within (omega (arith, c.requires.f_within)) φ s;
    }

-- what the turn adds is of the composition's steps
turned : (c : After-index) (w : Table) → c.index.result.now ≡ true → Extends (NodeStep (nodes_of c.loop-i.self) c.args.change.var c.args.change.by c.loop-i.i) c.loop-i.self w
    → Extends (ComposeStep (nodes_of c.args.self.now) c.args.f c.args.change.var c.args.change.by) c.args.self.now w
turned c w marked y =
    let t : Table = c.args.self.now in
    let u : Table = c.loop-i.self in
    let S : ((ℕ → Bool) → Bool) → Type 0 = ComposeStep (nodes_of t) c.args.f c.args.change.var c.args.change.by in
    extends_on S t u w c.loop-i.invariant.extends (extends_more (NodeStep (nodes_of u) c.args.change.var c.args.change.by c.loop-i.i) S u w (step_of c marked) y)

pub image-requires-clause-high : goal.image-requires-clause-high
image-requires-clause-high c = child_is (goal.at.image-requires-clause-high c).After-index true c.if-index.true

pub image-requires-clause-low : goal.image-requires-clause-low
image-requires-clause-low c = child_is (goal.at.image-requires-clause-low c).After-index false c.if-index.true

pub returns-in_err-self-clause-extends : goal.returns-in_err-self-clause-extends
returns-in_err-self-clause-extends c =
    let y = c.image.ensures.extends in
    turned (goal.at.returns-in_err-self-clause-extends c).After-index c.image.new.self c.if-index.true (record { limit_is = y.limit_is; grown = y.grown; parts = y.parts })

pub returns-in_err-self-clause-cases : goal.returns-in_err-self-clause-cases
returns-in_err-self-clause-cases c =
    let t : Table = c.args.self.now in
    let u : Table = c.loop-i.self in
    let w : Table = c.image.new.self in
    let f : ℕ = c.args.f in
    let v : ℕ = c.args.change.var in
    let g : ℕ = c.args.change.by in
    let x = c.loop-i.invariant.extends in
    let S : ((ℕ → Bool) → Bool) → Type 0 = ComposeStep (nodes_of t) f v g in
    let N : ((ℕ → Bool) → Bool) → Type 0 = NodeStep (nodes_of u) v g c.loop-i.i in
    none_is c.from_residual.result (NoRoom S (nodes_of t) (limit_of t)) (λ _. Denotes (nodes_of w) (carried (vec_items w.images) f) (composed (nodes_of t) v g f)) c.from_residual.ensures
    (room_before S t u (limit_of t) t.set.good x
    (room_more N S (nodes_of u) (limit_of t) (step_of (goal.at.returns-in_err-self-clause-cases c).After-index c.if-index.true) (subst (λ k. NoRoom N (nodes_of u) k) x.limit_is c.in_err-self.ensures.cases)))

pub loop-i-preserved : goal.loop-i-preserved
loop-i-preserved c =
    let b : After-index = (goal.at.loop-i-preserved c).After-index in
    let t : Table = c.args.self.now in
    let ns : List Node = nodes_of t in
    let f : ℕ = c.args.f in
    let v : ℕ = c.args.change.var in
    let g : ℕ = c.args.change.by in
    let i : ℕ = c.loop-i.i in
    let u : Table = c.loop-i.self in
    let ms : List Node = nodes_of u in
    let inv = c.loop-i.invariant in
    let x = inv.extends in
    let lt : i < f / 2 = early b in
    let images : List ℕ = vec_items u.images in
    let m : ℕ → Bool = at (vec_items u.marks) in
    elim c.if-index.branch [
      | then-index+in_ok-self w ↦ (
          let u' : Table = w.image.new.self in
          let ms' : List Node = nodes_of u' in
          let e : ℕ = w.in_ok-self.field-0 in
          let st = w.image.ensures.still in
          let y = w.image.ensures.extends in
          let z = turned b u' w.if-index.true (record { limit_is = y.limit_is; grown = y.grown; parts = y.parts }) in
          let long : vec_len u.set.nodes ≡ length ms = search rules in
          let more : vec_len u.images ≡ length images = search rules in
          let room : i < length images = omega (arith, x.grown.longer, u.set.within, u.images_room, c.requires.f_within) in
          let same_marks : vec_items u'.marks ≡ vec_items u.marks = ap vec_items st.marks_is in
          let same_images : vec_items u'.images ≡ images = ap vec_items st.images_is in
          let done : (k : ℕ) → k < i + 1 → m k ≡ true → Denotes ms' (get_or (set images i e) k 0) (composed ns v g (2 * (k + 1))) =
          images_more ns ms ms' images m v g i e t.set.good u.set.good x.grown y.grown c.requires.g_within (omega (arith, c.requires.f_within)) room w.in_ok-self.ensures.cases inv.done in
          subst (λ q. Mapping t q f v g (i + 1)) (sym w.self-is) (record {
            extends = record { limit_is = z.limit_is; grown = z.grown; parts = z.parts };
            marks = subst (λ xs. Marks ns f (f / 2) 0 (at xs)) (sym same_marks) inv.marks;
            done = λ k kl mk. subst (λ xs. Denotes ms' (get_or (set xs i e) k 0) (composed ns v g (2 * (k + 1)))) (sym same_images) (done k kl (sym (ap (λ xs. at xs k) same_marks) ∙ mk));
          }))
      | else-index w ↦ (
          let bare : m i ≡ false = sym (read b) ∙ w.if-index.false in
          subst (λ q. Mapping t q f v g (i + 1)) (sym w.self-is) (record {
            extends = record { limit_is = x.limit_is; grown = x.grown; parts = x.parts };
            marks = inv.marks;
            done = λ k kl mk. ⊎_elim (λ is. absurd (both_ways (m k) (ap m is ∙ bare) mk)) (λ ne. inv.done k (below k i kl ne) mk) (cases_eq k i);
          }))
    ]

pub returns-clause-cases : goal.returns-clause-cases
returns-clause-cases c =
    let ns : List Node = nodes_of c.args.self.now in
    let f : ℕ = c.args.f in
    let v : ℕ = c.args.change.var in
    let g : ℕ = c.args.change.by in
    let i : ℕ = c.loop-i.i in
    let u : Table = c.loop-i.self in
    let inv = c.loop-i.invariant in
    let images : List ℕ = vec_items u.images in
    let reached : f / 2 ≤ i = omega (arith, c.loop-i-test.false, c.place_of-i-end.ensures) in
    carried_denotes ns (nodes_of u) images v g f (place_denotes ns (nodes_of u) images (at (vec_items u.marks)) v g (f / 2) i reached inv.marks.root inv.done)
