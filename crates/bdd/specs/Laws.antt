-- What holds of every list of nodes that is well made.
use Rattle.std.specs.Prelude.{◌≡◌, ℕ, ◌<◌, ◌≤◌, Bool, true, false, not, ◌&&◌, ◌||◌, ◌⊎◌, List, [], ◌∷◌, length}
use Rattle.bdd.specs.declared.store.nodes.Node.{Node}
use Rattle.bdd.specs.Diagram.{eval, flip, node_at, Good, Same, Within}
use Rattle.bdd.specs.Parts.{PartOf}
use Rattle.bdd.specs.Size.{In, Ascending, Only, size_of, size_of_all}

-- two edges with one function are one edge
abbrev pub OneEdge : Type 0
OneEdge = (ns : List Node) (e f : ℕ) → Good ns → Within ns e → Within ns f → Same ns e ns f → e ≡ f

-- edges with inverse functions are each other's inverse
abbrev pub InverseEdges : Type 0
InverseEdges = (ns : List Node) (e f : ℕ) → Good ns → Within ns e → Within ns f → ((ρ : ℕ → Bool) → eval ns ρ e ≡ not (eval ns ρ f)) → e ≡ flip f

-- the node is a part of one of the functions, which look only at the inputs vs
abbrev pub Held : List Node → List ℕ → ℕ → List ((ℕ → Bool) → Bool) → Type 0
Held ns vs i [] = ⊥
Held ns vs i (φ ∷ φs) = (Only vs φ × PartOf ns φ i) ⊎ Held ns vs i φs

-- the variables of the nodes are among vs
abbrev pub Inputs : List Node → List ℕ → Type 0
Inputs ns vs = (i : ℕ) → i < length ns → In (node_at ns i).var vs

-- nodes that are all parts of some functions are no more than those functions have parts, each counted once
abbrev pub Fitting : Type 0
Fitting = (ns : List Node) (vs : List ℕ) (φs : List ((ℕ → Bool) → Bool)) → Good ns → Ascending vs → Inputs ns vs → ((i : ℕ) → i < length ns → Held ns vs i φs) → length ns ≤ size_of_all vs φs

-- Whatever functions the nodes are parts of, these and φ have together more parts, each counted once, than the limit.
abbrev pub TooMany : List Node → ℕ → ((ℕ → Bool) → Bool) → Type 0
TooMany ns limit φ = (vs : List ℕ) (φs : List ((ℕ → Bool) → Bool)) → Ascending vs → Inputs ns vs → Only vs φ → ((i : ℕ) → i < length ns → Held ns vs i φs) → limit < size_of_all vs (φ ∷ φs)

abbrev pub xor : Bool → Bool → Bool
xor true b = not b
xor false b = b

abbrev pub majority : Bool → Bool → Bool → Bool
majority a b c = (a && b) || ((a && c) || (b && c))

-- an input, the XOR of two, the majority of three
abbrev pub SmallSizes : Type 0
SmallSizes =
    (size_of (1 ∷ []) (λ ρ. ρ 1) ≡ 1)
    × (size_of (1 ∷ 2 ∷ []) (λ ρ. xor (ρ 1) (ρ 2)) ≡ 2)
    × (size_of (1 ∷ 2 ∷ 3 ∷ []) (λ ρ. majority (ρ 1) (ρ 2) (ρ 3)) ≡ 4)
