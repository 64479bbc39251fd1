-- What a list of nodes stands for: the function of an edge, and when the list is well made.
use Rattle.std.specs.Prelude.{◌≡◌, ℕ, zero, suc, ◌+◌, ◌-◌, ◌*◌, ◌/◌, ◌%◌, ◌<◌, ◌≤◌, Bool, true, false, cond, not, List, length, ◌==◌, slice_index_or}
use Rattle.bdd.specs.declared.store.nodes.Node.{Node}

abbrev pub node : ℕ → ℕ → ℕ → Node
node v h l = record { var = v; high = h; low = l }

abbrev pub node_at : List Node → ℕ → Node
node_at ns i = slice_index_or ns i (node 0 0 0)

-- the edge to the opposite function
abbrev pub flip : ℕ → ℕ
flip e = e + 1 - 2 * (e % 2)

-- a node's child
abbrev pub child : Node → Bool → ℕ
child n true = n.high
child n false = n.low

-- the opposite of b, if the edge is inverted
abbrev pub turned : Bool → Bool → Bool
turned true b = not b
turned false b = b

abbrev pub inverted : ℕ → Bool
inverted e = e % 2 == 1

-- the value of an edge, where f gives the values of places
abbrev pub edge : (ℕ → Bool) → ℕ → Bool
edge f e = turned (inverted e) (f (e / 2))

-- the value of a node at ρ, where f gives the values of places
abbrev pub branch : (ℕ → Bool) → (ℕ → Bool) → Node → Bool
branch ρ f n = elim (ρ n.var) [ true ↦ edge f n.high | false ↦ edge f n.low ]

-- The value at ρ of place j: 0 is the constant false, and suc i the node i. The number bounds how deep the look goes.
unfoldable pub value : ℕ → List Node → (ℕ → Bool) → ℕ → Bool
value zero ns ρ j = false
value (suc k) ns ρ zero = false
value (suc k) ns ρ (suc i) = branch ρ (value k ns ρ) (node_at ns i)

-- the value of an edge
unfoldable pub eval : List Node → (ℕ → Bool) → ℕ → Bool
eval ns ρ e = edge (λ j. value j ns ρ j) e

-- the variable of place j, 4096 for a constant
abbrev pub var_at : List Node → ℕ → ℕ
var_at ns zero = 4096
var_at ns (suc i) = (node_at ns i).var

abbrev pub top : List Node → ℕ → ℕ
top ns e = var_at ns (e / 2)

-- a child, turned as its edge is
abbrev pub turn : ℕ → ℕ → ℕ
turn e c = cond (inverted e) (flip c) c

-- the edge leads to a constant or to one of the nodes
abbrev pub Within : List Node → ℕ → Type 0
Within ns e = e / 2 ≤ length ns

-- a node at i refers to nodes before it, with later variables; its high edge is not inverted
pub record Fits (ns : List Node) (i : ℕ) (n : Node) : Type 0 where
  pub high_back : n.high / 2 ≤ i
  pub low_back : n.low / 2 ≤ i
  pub high_later : n.var < top ns n.high
  pub low_later : n.var < top ns n.low
  pub straight : n.high % 2 ≡ 0
  pub differ : n.high ≡ n.low → ⊥
  pub bounded : n.var < 4096

pub record Good (ns : List Node) : Type 0 where
  pub fits : (i : ℕ) → i < length ns → Fits ns i (node_at ns i)
  pub apart : (i j : ℕ) → i < length ns → j < length ns → node_at ns i ≡ node_at ns j → i ≡ j

-- equal at each assignment
abbrev pub Same : List Node → ℕ → List Node → ℕ → Type 0
Same ns e ms f = (ρ : ℕ → Bool) → eval ns ρ e ≡ eval ms ρ f

-- ms is ns with more nodes at the end
pub record Grown (ns ms : List Node) : Type 0 where
  pub longer : length ns ≤ length ms
  pub kept : (i : ℕ) → i < length ns → node_at ms i ≡ node_at ns i
