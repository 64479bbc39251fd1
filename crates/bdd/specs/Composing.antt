-- Composition: a function in the place of a variable. Which functions its steps make, and when there is no room for them.
use Rattle.std.specs.Prelude.{◌≡◌, ℕ, zero, suc, ◌+◌, ◌*◌, ◌/◌, ◌<◌, ◌≤◌, Bool, true, cond, not, ◌&&◌, ◌⊎◌, List, [], ◌∷◌, length, vec_items, slice_index}
use Rattle.bdd.specs.declared.store.nodes.Node.{Node}
use Rattle.bdd.specs.declared.store.Table.{Table}
use Rattle.bdd.specs.Diagram.{node_at, eval, turn, Within, Grown}
use Rattle.bdd.specs.Parts.{PartOf}
use Rattle.bdd.specs.Size.{with_input, Ascending, Only, size_of_all}
use Rattle.bdd.specs.Laws.{Held, Inputs}
use Rattle.bdd.specs.Contents.{nodes_of, limit_of}
use Rattle.bdd.specs.Marking.{at, Marks}

-- the function of e, with that of g in the place of the variable v
abbrev pub composed : List Node → ℕ → ℕ → ℕ → (ℕ → Bool) → Bool
composed ns v g e ρ = eval ns (with_input ρ v (eval ns ρ g)) e

-- equal at each assignment
abbrev pub Is : ((ℕ → Bool) → Bool) → ((ℕ → Bool) → Bool) → Type 0
Is φ ψ = (ρ : ℕ → Bool) → φ ρ ≡ ψ ρ

abbrev pub Among : ((ℕ → Bool) → Bool) → List ((ℕ → Bool) → Bool) → Type 0
Among φ [] = ⊥
Among φ (ψ ∷ ψs) = Is φ ψ ⊎ Among φ ψs

-- The steps S are functions that are made on the way. Whatever functions the nodes are parts of, these and the steps have together
-- more parts, each counted once, than the limit.
abbrev pub NoRoom : (((ℕ → Bool) → Bool) → Type 0) → List Node → ℕ → Type 0
NoRoom S ns limit = (vs : List ℕ) (φs : List ((ℕ → Bool) → Bool)) → Ascending vs → Inputs ns vs → ((i : ℕ) → i < length ns → Held ns vs i φs)
    → ((φ : (ℕ → Bool) → Bool) → S φ → Among φ φs × Only vs φ) → limit < size_of_all vs φs

pub record Denotes (ns : List Node) (e : ℕ) (φ : (ℕ → Bool) → Bool) : Type 0 where
  pub inside : Within ns e
  pub value_is : (ρ : ℕ → Bool) → eval ns ρ e ≡ φ ρ

-- a new node is a part of one of the steps
pub record PartOfStep (S : ((ℕ → Bool) → Bool) → Type 0) (ns : List Node) (i : ℕ) : Type 0 where
  pub step : (ℕ → Bool) → Bool
  pub is_step : S step
  pub part : PartOf ns step i

-- the nodes that were there stay, and each new one is a part of one of the steps
pub record Extends (S : ((ℕ → Bool) → Bool) → Type 0) (t u : Table) : Type 0 where
  pub limit_is : limit_of u ≡ limit_of t
  pub grown : Grown (nodes_of t) (nodes_of u)
  pub parts : (i : ℕ) → length (nodes_of t) ≤ i → i < length (nodes_of u) → PartOfStep S (nodes_of u) i

-- the scratch stays too
pub record Still (t u : Table) : Type 0 where
  pub marks_is : u.marks ≡ t.marks
  pub images_is : u.images ≡ t.images

abbrev pub choice : ((ℕ → Bool) → Bool) → ((ℕ → Bool) → Bool) → ((ℕ → Bool) → Bool) → (ℕ → Bool) → Bool
choice T H L ρ = cond (T ρ) (H ρ) (L ρ)

-- the steps of a choice: its two halves, and the choice itself, inverted
abbrev pub ChoiceStep : ((ℕ → Bool) → Bool) → ((ℕ → Bool) → Bool) → ((ℕ → Bool) → Bool) → ((ℕ → Bool) → Bool) → Type 0
ChoiceStep T H L φ = Is φ (λ ρ. T ρ && H ρ) ⊎ (Is φ (λ ρ. not (T ρ) && L ρ) ⊎ Is φ (λ ρ. not (choice T H L ρ)))

-- what takes the place of the variable w
abbrev pub tested : List Node → ℕ → ℕ → ℕ → (ℕ → Bool) → Bool
tested ns v g w ρ = with_input ρ v (eval ns ρ g) w

-- the steps at the node k: its test, and the choice between its composed children
abbrev pub NodeStep : List Node → ℕ → ℕ → ℕ → ((ℕ → Bool) → Bool) → Type 0
NodeStep ns v g k φ = Is φ (tested ns v g (node_at ns k).var) ⊎ ChoiceStep (tested ns v g (node_at ns k).var) (composed ns v g (node_at ns k).high) (composed ns v g (node_at ns k).low) φ

-- the steps of a composition: those at the nodes of the diagram
pub record ComposeStep (ns : List Node) (f v g : ℕ) (φ : (ℕ → Bool) → Bool) : Type 0 where
  pub at : ℕ
  pub before : at < f / 2
  pub of_diagram : PartOf ns (λ ρ. eval ns ρ f) at
  pub is : NodeStep ns v g at φ

-- the image of a place, where each node has one; a constant is its own
abbrev pub image_at : List ℕ → ℕ → ℕ
image_at images zero = 0
image_at images (suc k) = slice_index images k

abbrev pub carried : List ℕ → ℕ → ℕ
carried images e = turn e (image_at images (e / 2))

-- the nodes of the diagram before i have their images
pub record Mapping (t u : Table) (f v g i : ℕ) : Type 0 where
  pub extends : Extends (ComposeStep (nodes_of t) f v g) t u
  pub marks : Marks (nodes_of t) f (f / 2) 0 (at (vec_items u.marks))
  pub done : (k : ℕ) → k < i → at (vec_items u.marks) k ≡ true → Denotes (nodes_of u) (slice_index (vec_items u.images) k) (composed (nodes_of t) v g (2 * (k + 1)))
