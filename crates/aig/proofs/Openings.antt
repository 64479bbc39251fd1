-- A table of the constant and the inputs alone.
use Rattle.std.proofs.Common.{◌≡◌, ℕ, zero, suc, ◌+◌, ◌*◌, ◌<◌, List, [], ◌∷◌, length, sym, refl, ap, ◌∙◌, inl, inr, arith}
use Rattle.std.proofs.lemmas.Bool.{cases_eq}
use Rattle.std.proofs.lemmas.List.{length_push, get_or_push, get_or_append_left}
use Rattle.aig.specs.declared.vertex.Vertex.{Vertex}
use Rattle.aig.specs.Table.{none, vertex, link_of, row, opening}
use Rattle.aig.specs.Values.{vertex_value}
use Rattle.aig.specs.Algebras.{booleans, net_at}
use Rattle.aig.specs.Invariant.{Whole}
use Rattle.aig.proofs.Nets.{value_twice}

pub row_length : (m : ℕ) → length (row m) ≡ m
row_length zero = refl
row_length (suc m) = length_push (row m) (vertex 0 0 (2 * m)) ∙ omega (arith, row_length m)

row_links : (m k : ℕ) → k < m → link_of (row m) k ≡ 2 * k
row_links zero k h = absurd (omega arith)
row_links (suc m) k h = elim (cases_eq k m) [
  | inl e ↦ ap (λ (x : Vertex). x.link.0) (get_or_push (row m) (vertex 0 0 (2 * m)) none k (row_length m ∙ sym e)) ∙ ap (λ (x : ℕ). 2 * x) (sym e)
  | inr e ↦ ap (λ (x : Vertex). x.link.0) (get_or_append_left (row m) (vertex 0 0 (2 * m) ∷ []) none k (omega (arith, row_length m))) ∙ row_links m k (omega arith)
]

start_whole : (n : ℕ) (t : List Vertex) → length t ≡ n + 1 → n < 4096 → ((k : ℕ) → k < n + 1 → link_of t k ≡ 2 * k) → Whole n t
start_whole n t long few f = record {
  few = λ h. omega arith;
  small = omega arith;
  linked = λ v m. absurd (m.lost (f v (omega (arith, m.inside))));
  earlier = λ v g. absurd (omega (arith, g.after, g.inside));
  standing = λ v s. absurd (omega (arith, s.after, s.inside));
  proper = λ v s. absurd (omega (arith, s.after, s.inside));
  unique = λ x y e. absurd (omega (arith, e.one.after, e.one.inside));
  equal = λ code v h. sym (ap (net_at booleans (vertex_value n t code)) (f v (omega arith)) ∙ value_twice booleans (vertex_value n t code) v);
}

pub opening_whole : (n : ℕ) → n < 4096 → Whole n (opening n)
opening_whole n h = start_whole n (opening n) (row_length (suc n) ∙ omega arith) h (λ k l. row_links (suc n) k (omega arith))
