-- Gates from their ANDs: what each AND gives, put together.
use Rattle.std.proofs.Common.{◌≡◌, ℕ, ◌/◌, ◌%◌, ◌<◌, Bool, true, false, cond, not, ◌&&◌, ◌||◌, List, length, sym, refl, ap, ◌∙◌, subst, arith}
use Rattle.std.proofs.Math.Bool.{not-not}
use Rattle.gates.specs.declared.kind.Kind.{Kind}
use Rattle.gates.specs.Kinds.{differ}
use Rattle.aig.specs.declared.vertex.Vertex.{Vertex}
use Rattle.aig.specs.Nets.{inverse, flip}
use Rattle.aig.specs.Values.{value, vertex_value}
use Rattle.aig.specs.Algebras.{booleans}
use Rattle.aig.specs.Ands.{Made, and_of, Extends, Anded}
use Rattle.aig.specs.Kinds.{inverted, neither_from, Makes, Gated, Neither}
use Rattle.aig.specs.Graphs.{SameBounds}
use Rattle.aig.specs.declared.graph.Graph.{Graph}
use Rattle.aig.proofs.Nets.{half_carried, value_carried}

-- ---- values from one table to the next

pub value_kept : {n : ℕ} {t u : List Vertex} → Extends n t u → (x : ℕ) → x / 2 < length t → (code : ℕ) → value n u x code ≡ value n t x code
unfolding value
value_kept e x h code = ap (flip not (x % 2)) (e.same code (x / 2) h)

pub value_inverse : (n : ℕ) (t : List Vertex) (x code : ℕ) → value n t (inverse x) code ≡ not (value n t x code)
unfolding value
value_inverse n t x code = sym (value_carried booleans (vertex_value n t code) x 1)

pub inverse_in : (x m : ℕ) → x / 2 < m → inverse x / 2 < m
inverse_in x m h = omega (arith, half_carried x 1)

extends_both : {n : ℕ} {t u v : List Vertex} → Extends n t u → Extends n u v → Extends n t v
extends_both p q = record {
  longer = omega (arith, p.longer, q.longer);
  same = λ code x h. q.same code x (omega (arith, p.longer)) ∙ p.same code x h;
}

pub anded_with : {n m x y net : ℕ} {t u : List Vertex} → m ≡ n → Anded m t x y net u → Anded n t x y net u
anded_with {n} {m} {x} {y} {net} {t} {u} e a = subst (λ (k : ℕ). Anded k t x y net u) e a

pub bounds_both : {f g h : Graph} → SameBounds f g → SameBounds g h → SameBounds f h
bounds_both p q = record { inputs = q.inputs ∙ p.inputs; places = q.places ∙ p.places }

-- ---- one AND, its inverse, and no AND

module _ {n : ℕ} {t : List Vertex} where
  pub makes_and : {x y net : ℕ} {u : List Vertex} (f : ℕ → Bool) → ((code : ℕ) → (value n t x code && value n t y code) ≡ f code)
      → Anded n t x y net u → Makes n t (and_of n t x y) f net u
  makes_and f e a = record {
    ands = a.lines;
    within = a.within;
    three_more = omega (arith, a.one_more);
    extends = a.extends;
    function = λ code. a.is_and code ∙ e code;
  }

  pub makes_inverse : {m : Made} {f : ℕ → Bool} {net : ℕ} {u : List Vertex} (g : ℕ → Bool) → ((code : ℕ) → not (f code) ≡ g code) → (r : ℕ) → r ≡ inverse net
      → Makes n t m f net u → Makes n t (inverted m) g r u
  makes_inverse {m} {f} {net} {u} g e r p a = record {
    ands = ap inverted a.ands ∙ ap (λ (x : ℕ). record { net = x; table = u }) (sym p);
    within = omega (arith, p, inverse_in net (length u) a.within);
    three_more = a.three_more;
    extends = a.extends;
    function = λ code. ap (λ (x : ℕ). value n u x code) p ∙ value_inverse n u net code ∙ ap not (a.function code) ∙ e code;
  }

  pub makes_same : {m : Made} {f : ℕ → Bool} {net : ℕ} {u : List Vertex} (g : ℕ → Bool) → ((code : ℕ) → f code ≡ g code) → Makes n t m f net u → Makes n t m g net u
  makes_same g e a = record {
    ands = a.ands;
    within = a.within;
    three_more = a.three_more;
    extends = a.extends;
    function = λ code. a.function code ∙ e code;
  }

  pub makes_none : (x r : ℕ) → x / 2 < length t → r ≡ x → Makes n t (record { net = x; table = t }) (λ code. value n t x code) r t
  makes_none x r h p = record {
    ands = ap (λ (k : ℕ). record { net = k; table = t }) (sym p);
    within = omega arith;
    three_more = omega arith;
    extends = record { longer = omega arith; same = λ code v k. refl };
    function = λ code. ap (λ (k : ℕ). value n t k code) p;
  }

  pub gated_as : {k j : Kind} (a b c : ℕ) {net : ℕ} {u : List Vertex} → k ≡ j → Gated n t j a b c net u → Gated n t k a b c net u
  gated_as {k} {j} a b c {net} {u} e g = subst (λ (x : Kind). Gated n t x a b c net u) (sym e) g

  -- ---- three ANDs

  pub makes_neither : {a b c d p q r np nq : ℕ} {u v w : List Vertex} → c / 2 < length t → d / 2 < length t
      → Anded n t a b p u → Anded n u c d q v → np ≡ inverse p → nq ≡ inverse q → Anded n v np nq r w → Neither n t a b c d r w
  makes_neither {a} {b} {c} {d} {p} {q} {r} {np} {nq} {u} {v} {w} hc hd x y ep eq z = record {
    ands = ap (λ (m : Made). neither_from n m.net (and_of n m.table c d)) x.lines ∙ ap (neither_from n p) y.lines
        ∙ ap (λ (k : ℕ). and_of n v k (inverse q)) (sym ep) ∙ ap (and_of n v np) (sym eq) ∙ z.lines;
    within = z.within;
    three_more = omega (arith, x.one_more, y.one_more, z.one_more);
    extends = extends_both x.extends (extends_both y.extends z.extends);
    function = λ code. z.is_and code
        ∙ ap (λ (k : Bool). k && value n v nq code) (ap (λ (k : ℕ). value n v k code) ep ∙ value_inverse n v p code
        ∙ ap not (value_kept y.extends p x.within code ∙ x.is_and code))
        ∙ ap (λ (k : Bool). not (value n t a code && value n t b code) && k) (ap (λ (k : ℕ). value n v k code) eq ∙ value_inverse n v q code
        ∙ ap not (y.is_and code ∙ ap (λ (k : Bool). k && value n u d code) (value_kept x.extends c hc code) ∙ ap (λ (k : Bool). value n t c code && k) (value_kept x.extends d hd code)));
  }

-- ---- the Boolean functions

pub or_function : (a b na nb : Bool) → na ≡ not a → nb ≡ not b → not (na && nb) ≡ (a || b)
or_function true b na nb e f = rw e
or_function false b na nb e f = rw (e, f) (not-not b)

pub nor_function : (a b na nb : Bool) → na ≡ not a → nb ≡ not b → (na && nb) ≡ not (a || b)
nor_function true b na nb e f = rw e
nor_function false b na nb e f = rw (e, f)

pub xor_function : (a b na nb : Bool) → na ≡ not a → nb ≡ not b → (not (a && b) && not (na && nb)) ≡ differ a b
xor_function true true na nb e f = refl
xor_function true false na nb e f = rw e
xor_function false true na nb e f = rw (e, f)
xor_function false false na nb e f = rw (e, f)

pub mux_function : (a b c na : Bool) → na ≡ not a → not (not (a && b) && not (na && c)) ≡ cond a b c
mux_function true true c na e = refl
mux_function true false c na e = rw e
mux_function false b true na e = rw e
mux_function false b false na e = rw e
