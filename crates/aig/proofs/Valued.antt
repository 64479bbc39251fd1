-- the values of a table's vertices: they are the only ones that its gates allow
use Rattle.std.proofs.Common.{◌≡◌, ℕ, zero, suc, ◌-◌, ◌/◌, ◌%◌, ◌<◌, ◌≤◌, Bool, false, not, ◌&&◌, List, length, sym, refl, ap, ◌∙◌, inl, inr, arith}
use Rattle.std.proofs.lemmas.Bool.{cases_eq, cases_lt}
use Rattle.std.proofs.lemmas.Bool.Decides.{nat_tests}
use Rattle.aig.specs.Table.{left_of, right_of}
use Rattle.aig.specs.Nets.{flip, net_value}
use Rattle.aig.specs.Values.{bit, value_by, value_in, vertex_value}
use Rattle.aig.specs.Invariant.{ReadsEarlier}
use Rattle.aig.specs.declared.vertex.Vertex.{Vertex}

-- the three kinds of vertices
module _ (n : ℕ) (t : List Vertex) (code : ℕ) (ρ : ℕ → Bool) where
  pub by_zero : (v : ℕ) → v ≡ 0 → value_by n t code ρ v ≡ false
  by_zero v e = grind (arith, nat_tests)

  pub by_input : (v : ℕ) → (v ≡ 0 → ⊥) → v ≤ n → value_by n t code ρ v ≡ bit code (v - 1)
  by_input v e h = grind (arith, nat_tests)

  pub by_gate : (v : ℕ) → n < v → value_by n t code ρ v ≡ (net_value ρ (left_of t v) && net_value ρ (right_of t v))
  by_gate v h = grind (arith, nat_tests)

-- two valuations that agree on what `v` reads give it one value
pub by_same : (n : ℕ) (t : List Vertex) (code : ℕ) (ρ σ : ℕ → Bool) (v : ℕ) → (n < v → (ρ (left_of t v / 2) ≡ σ (left_of t v / 2)) × (ρ (right_of t v / 2) ≡ σ (right_of t v / 2)))
    → value_by n t code ρ v ≡ value_by n t code σ v
by_same n t code ρ σ v f = elim (cases_lt n v) [
  | inl h ↦ by_gate n t code ρ v h ∙ ap (λ (b : Bool). flip not (left_of t v % 2) b && net_value ρ (right_of t v)) (f h).0
      ∙ ap (λ (b : Bool). net_value σ (left_of t v) && flip not (right_of t v % 2) b) (f h).1 ∙ sym (by_gate n t code σ v h)
  | inr h ↦ elim (cases_eq v 0) [
    | inl e ↦ by_zero n t code ρ v e ∙ sym (by_zero n t code σ v e)
    | inr e ↦ by_input n t code ρ v e h ∙ sym (by_input n t code σ v e h)
  ]
]

module _ (n : ℕ) (t : List Vertex) (early : ReadsEarlier n t) (code : ℕ) where
  -- what `ρ` gives, if it obeys each vertex, is the value that the steps find
  pub found_is : (ρ : ℕ → Bool) → ((v : ℕ) → v < length t → ρ v ≡ value_by n t code ρ v)
      → (steps v : ℕ) → v < steps → v < length t → value_in n t code steps v ≡ ρ v
  found_is ρ f zero v h l = absurd (omega arith)
  found_is ρ f (suc steps) v h l =
      by_same n t code (value_in n t code steps) ρ v
      (λ gt. (let e = early v (record { after = gt; inside = l }) in (
        found_is ρ f steps (left_of t v / 2) (omega (arith, e.0)) (omega (arith, e.0)),
        found_is ρ f steps (right_of t v / 2) (omega (arith, e.1)) (omega (arith, e.1)),
      )))
      ∙ sym (f v l)

  -- more steps find the same
  steps_same : (i j v : ℕ) → v < i → v < j → v < length t → value_in n t code i v ≡ value_in n t code j v
  steps_same zero j v h k l = absurd (omega arith)
  steps_same (suc i) zero v h k l = absurd (omega arith)
  steps_same (suc i) (suc j) v h k l =
      by_same n t code (value_in n t code i) (value_in n t code j) v
      (λ gt. (let e = early v (record { after = gt; inside = l }) in (
        steps_same i j (left_of t v / 2) (omega (arith, e.0)) (omega (arith, e.0)) (omega (arith, e.0)),
        steps_same i j (right_of t v / 2) (omega (arith, e.1)) (omega (arith, e.1)) (omega (arith, e.1)),
      )))

  pub value_obeys : (v : ℕ) → v < length t → vertex_value n t code v ≡ value_by n t code (vertex_value n t code) v
  unfolding vertex_value
  value_obeys v l =
      by_same n t code (value_in n t code v) (λ x. value_in n t code (suc x) x) v
      (λ gt. (let e = early v (record { after = gt; inside = l }) in (
        steps_same v (suc (left_of t v / 2)) (left_of t v / 2) e.0 (omega arith) (omega (arith, e.0)),
        steps_same v (suc (right_of t v / 2)) (right_of t v / 2) e.1 (omega arith) (omega (arith, e.1)),
      )))

  pub value_only : (ρ : ℕ → Bool) → ((v : ℕ) → v < length t → ρ v ≡ value_by n t code ρ v) → (v : ℕ) → v < length t → vertex_value n t code v ≡ ρ v
  unfolding vertex_value
  value_only ρ f v l = found_is ρ f (suc v) v (omega arith) l

  pub value_gate : (v : ℕ) → n < v → v < length t → vertex_value n t code v ≡ (net_value (vertex_value n t code) (left_of t v) && net_value (vertex_value n t code) (right_of t v))
  value_gate v gt l = value_obeys v l ∙ by_gate n t code (vertex_value n t code) v gt

pub value_zero : (n : ℕ) (t : List Vertex) (code : ℕ) → vertex_value n t code 0 ≡ false
unfolding vertex_value
value_zero n t code = refl

-- the values of one table obey another, where each gate of the other gives the value that it had
pub value_across : (n : ℕ) (t u : List Vertex) → ReadsEarlier n t → ReadsEarlier n u → (code : ℕ) → length t ≤ length u
    → ((v : ℕ) → n < v → v < length t → vertex_value n t code v ≡ (net_value (vertex_value n t code) (left_of u v) && net_value (vertex_value n t code) (right_of u v)))
    → (v : ℕ) → v < length t → v < length u → vertex_value n t code v ≡ value_by n u code (vertex_value n t code) v
value_across n t u et eu code h f v l k = elim (cases_lt n v) [
  | inl gt ↦ f v gt l ∙ sym (by_gate n u code (vertex_value n t code) v gt)
  | inr le ↦ elim (cases_eq v 0) [
    | inl e ↦ value_obeys n t et code v l ∙ by_zero n t code (vertex_value n t code) v e ∙ sym (by_zero n u code (vertex_value n t code) v e)
    | inr e ↦ value_obeys n t et code v l ∙ by_input n t code (vertex_value n t code) v e le ∙ sym (by_input n u code (vertex_value n t code) v e le)
  ]
]
