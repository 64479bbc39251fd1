-- The images of nodes under a composition.
use Rattle.std.proofs.Common.{◌≡◌, ℕ, zero, suc, ◌+◌, ◌*◌, ◌/◌, ◌<◌, ◌≤◌, Bool, true, false, cond, not, ◌&&◌, ◌⊎◌, List, length, get_or, set, sym, ap, ◌∙◌, subst, ap₂, inl, inr, ⊎_elim, arith}
use Rattle.std.proofs.lemmas.List.{get_or-set_same, get_or-set_other}
use Rattle.std.proofs.lemmas.Bool.{cases_Bool, cases_eq}
use Rattle.bdd.specs.declared.store.nodes.Node.{Node}
use Rattle.bdd.specs.Diagram.{child, node_at, eval, value, turned, inverted, var_at, top, Good, Grown}
use Rattle.bdd.specs.Marking.{Marked, Marks}
use Rattle.bdd.specs.Composing.{Is, Denotes, choice, ChoiceStep, tested, composed, NodeStep, image_at, carried}
use Rattle.bdd.proofs.Values.{eval_kept, eval_false, eval_child, turned_even, eval_turn, turn_half, child_fits}
use Rattle.bdd.proofs.Canon.{upd, eval_upd}

-- an edge's value, by that of its place
pub eval_place : (ns : List Node) (ρ : ℕ → Bool) (e : ℕ) → eval ns ρ e ≡ turned (inverted e) (eval ns ρ (2 * (e / 2)))
unfolding eval
eval_place ns ρ e =
    let half : 2 * (e / 2) / 2 ≡ e / 2 = omega arith in
    let even : (b : Bool) → turned (inverted (2 * (e / 2))) b ≡ b = λ b. turned_even (2 * (e / 2)) b (omega arith) in
    ap (turned (inverted e)) (sym (even (value (2 * (e / 2) / 2) ns ρ (2 * (e / 2) / 2)) ∙ ap (λ j. value j ns ρ j) half))

-- where the images of places denote, those of edges do
pub carried_denotes : (ns ms : List Node) (images : List ℕ) (v g e : ℕ) → Denotes ms (image_at images (e / 2)) (composed ns v g (2 * (e / 2))) → Denotes ms (carried images e) (composed ns v g e)
carried_denotes ns ms images v g e d =
    let x : ℕ = image_at images (e / 2) in
    record {
      inside = let h = turn_half e x in let i = d.inside in omega arith;
      value_is = λ ρ. eval_turn ms ρ e x ∙ ap (turned (inverted e)) (d.value_is ρ) ∙ sym (eval_place ns (upd ρ v (eval ns ρ g)) e);
    }

pub place_denotes : (ns ms : List Node) (images : List ℕ) (m : ℕ → Bool) (v g j i : ℕ) → j ≤ i → Marked m j
    → ((k : ℕ) → k < i → m k ≡ true → Denotes ms (get_or images k 0) (composed ns v g (2 * (k + 1)))) → Denotes ms (image_at images j) (composed ns v g (2 * j))
place_denotes ns ms images m v g zero i le mark done = record { inside = omega arith; value_is = λ ρ. eval_false ms ρ ∙ sym (eval_false ns (upd ρ v (eval ns ρ g))) }
place_denotes ns ms images m v g (suc k) i le mark done =
    let up : 2 * (k + 1) ≡ 2 * suc k = omega arith in
    subst (λ x. Denotes ms (get_or images k 0) (composed ns v g x)) up (done k le mark)

-- a node past v is its own image
pub past_denotes : (ns : List Node) (v g i : ℕ) → Good ns → i < length ns → v < (node_at ns i).var → Denotes ns (2 * (i + 1)) (composed ns v g (2 * (i + 1)))
past_denotes ns v g i good h lt =
    let half : 2 * (i + 1) / 2 ≡ suc i = omega arith in
    let at : top ns (2 * (i + 1)) ≡ (node_at ns i).var = ap (var_at ns) half in
    record { inside = omega arith; value_is = λ ρ. sym (eval_upd ns ρ v (eval ns ρ g) (2 * (i + 1)) good (omega arith) (omega arith)) }

-- a node chooses between its children
pub node_choice : (ns : List Node) (ρ : ℕ → Bool) (i : ℕ) → Good ns → i < length ns → cond (ρ (node_at ns i).var) (eval ns ρ (node_at ns i).high) (eval ns ρ (node_at ns i).low) ≡ eval ns ρ (2 * (i + 1))
node_choice ns ρ i good h =
    let n : Node = node_at ns i in
    let half : 2 * (i + 1) / 2 ≡ suc i = omega arith in
    let at : (b : Bool) → ρ n.var ≡ b → eval ns ρ (2 * (i + 1)) ≡ eval ns ρ (child n b) = λ b is.
    eval_child ns ρ (2 * (i + 1)) i b good half h is ∙ turned_even (2 * (i + 1)) (eval ns ρ (child n b)) (omega arith) in
    ⊎_elim
    (λ t. ap (λ b. cond b (eval ns ρ n.high) (eval ns ρ n.low)) t ∙ sym (at true t))
    (λ f. ap (λ b. cond b (eval ns ρ n.high) (eval ns ρ n.low)) f ∙ sym (at false f))
    (cases_Bool (ρ n.var))

pub choice_like : (T H L T' H' L' : (ℕ → Bool) → Bool) → Is T T' → Is H H' → Is L L' → Is (choice T H L) (choice T' H' L')
choice_like T H L T' H' L' a b c ρ = ap (λ x. cond x (H ρ) (L ρ)) (a ρ) ∙ ap (λ x. cond (T' ρ) x (L ρ)) (b ρ) ∙ ap (λ x. cond (T' ρ) (H' ρ) x) (c ρ)

pub choice_step : (T H L T' H' L' : (ℕ → Bool) → Bool) → Is T T' → Is H H' → Is L L' → (φ : (ℕ → Bool) → Bool) → ChoiceStep T H L φ → ChoiceStep T' H' L' φ
choice_step T H L T' H' L' a b c φ (inl i) = inl (λ ρ. i ρ ∙ ap₂ ◌&&◌ (a ρ) (b ρ))
choice_step T H L T' H' L' a b c φ (inr (inl i)) = inr (inl (λ ρ. i ρ ∙ ap₂ ◌&&◌ (ap not (a ρ)) (c ρ)))
choice_step T H L T' H' L' a b c φ (inr (inr i)) = inr (inr (λ ρ. i ρ ∙ ap not (choice_like T H L T' H' L' a b c ρ)))

pub composed_kept : (ns ms : List Node) (v g e : ℕ) → Good ns → Grown ns ms → g / 2 ≤ length ns → e / 2 ≤ length ns → Is (composed ms v g e) (composed ns v g e)
composed_kept ns ms v g e good grown in_g in_e ρ =
    ap (λ b. eval ms (upd ρ v b) e) (eval_kept ns ms ρ g good grown in_g) ∙ eval_kept ns ms (upd ρ v (eval ns ρ g)) e good grown in_e

pub tested_kept : (ns ms : List Node) (v g w : ℕ) → Good ns → Grown ns ms → g / 2 ≤ length ns → Is (tested ms v g w) (tested ns v g w)
tested_kept ns ms v g w good grown in_g ρ = ap (λ b. upd ρ v b w) (eval_kept ns ms ρ g good grown in_g)

-- the steps at a node are the same in a longer list
pub step_kept : (ns ms : List Node) (v g i : ℕ) → Good ns → Grown ns ms → g / 2 ≤ length ns → i < length ns → (φ : (ℕ → Bool) → Bool) → NodeStep ms v g i φ → NodeStep ns v g i φ
step_kept ns ms v g i good grown in_g h φ s =
    let n : Node = node_at ns i in
    let fits = good.fits i h in
    let hb = fits.high_back in
    let lb = fits.low_back in
    let P : Node → Type 0 = λ x. Is φ (tested ms v g x.var) ⊎ ChoiceStep (tested ms v g x.var) (composed ms v g x.high) (composed ms v g x.low) φ in
    let s' : P n = subst P (grown.kept i h) s in
    let a : Is (tested ms v g n.var) (tested ns v g n.var) = tested_kept ns ms v g n.var good grown in_g in
    ⊎_elim
    (λ is. inl (λ ρ. is ρ ∙ a ρ))
    (λ st. inr (choice_step (tested ms v g n.var) (composed ms v g n.high) (composed ms v g n.low) (tested ns v g n.var) (composed ns v g n.high) (composed ns v g n.low) a
    (composed_kept ns ms v g n.high good grown in_g (omega arith)) (composed_kept ns ms v g n.low good grown in_g (omega arith)) φ st))
    s'

-- the images of a marked node's children, in terms of the present nodes
pub child_image : (ns ms : List Node) (images : List ℕ) (m : ℕ → Bool) (f v g i n : ℕ) (b : Bool) → Good ns → Grown ns ms → g / 2 ≤ length ns → n ≤ length ns → i < n → Marks ns f n 0 m → m i ≡ true
    → ((k : ℕ) → k < i → m k ≡ true → Denotes ms (get_or images k 0) (composed ns v g (2 * (k + 1))))
    → Denotes ms (carried images (child (node_at ms i) b)) (composed ms v g (child (node_at ms i) b))
child_image ns ms images m f v g i n b good grown in_g in-n lt marks mark done =
    let x : Node = node_at ns i in
    let cf = child_fits ns i x b (good.fits i (omega arith)) in
    let e : ℕ = child x b in
    let back = cf.0 in
    let closed = marks.closed i (omega arith) lt mark in
    let P : Bool → Type 0 = λ y. Marked m (child x y / 2) in
    let marked : P b = elim b as P [ true ↦ closed.0 | false ↦ closed.1 ] in
    let d : Denotes ms (carried images e) (composed ns v g e) = carried_denotes ns ms images v g e (place_denotes ns ms images m v g (e / 2) i back marked done) in
    let up : Is (composed ns v g e) (composed ms v g e) = λ ρ. sym (composed_kept ns ms v g e good grown in_g (omega arith) ρ) in
    subst (λ y. Denotes ms (carried images (child y b)) (composed ms v g (child y b))) (sym (grown.kept i (omega arith)))
    (record { inside = d.inside; value_is = λ ρ. d.value_is ρ ∙ up ρ })

-- one image more
pub images_more : (ns ms ms' : List Node) (images : List ℕ) (m : ℕ → Bool) (v g i e : ℕ) → Good ns → Good ms → Grown ns ms → Grown ms ms' → g / 2 ≤ length ns → i < length ns → i < length images
    → Denotes ms' e (composed ms v g (2 * (i + 1)))
    → ((k : ℕ) → k < i → m k ≡ true → Denotes ms (get_or images k 0) (composed ns v g (2 * (k + 1))))
    → (k : ℕ) → k < i + 1 → m k ≡ true → Denotes ms' (get_or (set images i e) k 0) (composed ns v g (2 * (k + 1)))
images_more ns ms ms' images m v g i e good good' grown grown' in_g h room d done k lt mark = ⊎_elim
    (λ is.
    let here : get_or (set images i e) k 0 ≡ e = ap (λ j. get_or (set images i e) j 0) is ∙ get_or-set_same images i e 0 room in
    let old : Is (composed ms v g (2 * (i + 1))) (composed ns v g (2 * (i + 1))) = composed_kept ns ms v g (2 * (i + 1)) good grown in_g (omega arith) in
    subst (λ x. Denotes ms' x (composed ns v g (2 * (k + 1)))) (sym here)
    (subst (λ j. Denotes ms' e (composed ns v g (2 * (j + 1)))) (sym is) (record { inside = d.inside; value_is = λ ρ. d.value_is ρ ∙ old ρ })))
    (λ ne.
    let there : get_or (set images i e) k 0 ≡ get_or images k 0 = get_or-set_other images i k e 0 ne in
    let q = done k (omega arith) mark in
    let longer = grown'.longer in
    let inside = q.inside in
    subst (λ x. Denotes ms' x (composed ns v g (2 * (k + 1)))) (sym there)
    (record { inside = omega arith; value_is = λ ρ. eval_kept ms ms' ρ (get_or images k 0) good' grown' q.inside ∙ q.value_is ρ }))
    (cases_eq k i)
