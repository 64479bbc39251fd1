-- The nets of the nine gate kinds: which ANDs each makes, in which order.
use Rattle.std.specs.Prelude.{◌≡◌, ℕ, ◌+◌, ◌/◌, ◌<◌, ◌≤◌, Bool, not, ◌&&◌, List, length}
use Rattle.gates.specs.declared.kind.Kind.{Kind}
use Rattle.gates.specs.declared.kind.Kind.TheVariants.{And, Or, Nand, Nor, Xor, Xnor, Not, Buf, Mux}
use Rattle.gates.specs.Kinds.{function_of}
use Rattle.aig.specs.declared.vertex.Vertex.{Vertex}
use Rattle.aig.specs.Nets.{inverse}
use Rattle.aig.specs.Values.{value}
use Rattle.aig.specs.Ands.{Made, and_of, Extends}

abbrev pub inverted : Made → Made
inverted m = record { net = inverse m.net; table = m.table }

-- P is the AND of `a` and `b`, Q that of `c` and `d`, and then AND(¬P, ¬Q)
abbrev pub neither_from : ℕ → ℕ → Made → Made
neither_from n p q = and_of n q.table (inverse p) (inverse q.net)

abbrev pub neither_of : ℕ → List Vertex → ℕ → ℕ → ℕ → ℕ → Made
neither_of n t a b c d = neither_from n (and_of n t a b).net (and_of n (and_of n t a b).table c d)

abbrev pub gate_of : ℕ → List Vertex → Kind → ℕ → ℕ → ℕ → Made
gate_of n t And a b c = and_of n t a b
gate_of n t Or a b c = inverted (and_of n t (inverse a) (inverse b))
gate_of n t Nand a b c = inverted (and_of n t a b)
gate_of n t Nor a b c = and_of n t (inverse a) (inverse b)
gate_of n t Xor a b c = neither_of n t a b (inverse a) (inverse b)
gate_of n t Xnor a b c = inverted (neither_of n t a b (inverse a) (inverse b))
gate_of n t Not a b c = record { net = inverse a; table = t }
gate_of n t Buf a b c = record { net = a; table = t }
gate_of n t Mux a b c = inverted (neither_of n t a b (inverse a) c)

-- the net and the table are those that `m` says; the net has the function `f` of the codes, and no net in use changes its value
pub record Makes (n : ℕ) (t : List Vertex) (m : Made) (f : ℕ → Bool) (net : ℕ) (t' : List Vertex) : Type 0 where
  pub ands : m ≡ record { net = net; table = t' }
  pub within : net / 2 < length t'
  pub three_more : length t' ≤ length t + 3
  pub extends : Extends n t t'
  pub function : (code : ℕ) → value n t' net code ≡ f code

-- a gate makes its kind's ANDs, and has its kind's Boolean function under every code
abbrev pub Gated : ℕ → List Vertex → Kind → ℕ → ℕ → ℕ → ℕ → List Vertex → Type 0
Gated n t k a b c net t' = Makes n t (gate_of n t k a b c) (λ code. function_of k (value n t a code) (value n t b code) (value n t c code)) net t'

abbrev pub Neither : ℕ → List Vertex → ℕ → ℕ → ℕ → ℕ → ℕ → List Vertex → Type 0
Neither n t a b c d net t' = Makes n t (neither_of n t a b c d) (λ code. not (value n t a code && value n t b code) && not (value n t c code && value n t d code)) net t'
