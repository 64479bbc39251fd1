-- Merges leave every question as it was, and merges after merges are merges.
use Rattle.std.proofs.Common.{◌≡◌, ℕ, ◌/◌, ◌%◌, ◌<◌, ◌≤◌, Bool, true, false, cond, not, ltb, sym, refl, ap, ◌∙◌, arith, ltb-true}
use mathlib.Core.Path.{fun_ext}
use Rattle.aig.specs.Nets.{flip, net_value}
use Rattle.aig.specs.Table.{link_of}
use Rattle.aig.specs.Values.{value}
use Rattle.aig.specs.Graphs.{inputs_of, vertices, used}
use Rattle.aig.specs.declared.graph.Graph.{Graph}
use Rattle.aig.proofs.Graphs.{whole_of}
use Rattle.aig.proofs.Wholes.{shape_of}
use Rattle.aig.proofs.Merging.{link_low, composed_none, composed_more}
use Rattle.engine.specs.Questions.{functions_of, question}
use Rattle.engine.specs.Merging.{function_in, OnlyMerged}

pub low_links : (g : Graph) → (v : ℕ) → v < used g → link_of (vertices g) v / 2 ≤ v
low_links g = link_low (shape_of (whole_of g))

-- a graph that is left alone
pub unmerged : (g : Graph) → OnlyMerged g g
unmerged g = record {
  inputs = refl;
  places = refl;
  number = refl;
  functions = λ code v h. refl;
  falls = λ v h s. s;
  composed = composed_none (shape_of (whole_of g));
  alike = λ code v h. (whole_of g).equal code v h;
}

module _ (g h : Graph) (m : OnlyMerged g h) where
  pub same_value : (x : ℕ) → x / 2 < used g → (code : ℕ) → value (inputs_of h) (vertices h) x code ≡ value (inputs_of g) (vertices g) x code
  unfolding value
  same_value x u code = ap (flip not (x % 2)) (m.functions code (x / 2) u)

  same_function : (v code : ℕ) → functions_of (inputs_of h) (vertices h) v code ≡ functions_of (inputs_of g) (vertices g) v code
  same_function v code =
      ap (λ (k : ℕ). cond (ltb v k) (function_in h code v) false) m.number ∙ go (ltb v (used g)) refl
    where
      go : (x : Bool) → ltb v (used g) ≡ x → cond x (function_in h code v) false ≡ cond x (function_in g code v) false
      go true e = m.functions code v (ltb-true v (used g) e)
      go false e = refl

  pub still_used : (x : ℕ) → x / 2 < used g → x / 2 < used h
  still_used x u = omega (arith, m.number)

  -- equal questions are equal
  pub same_question : (a b limit nodes : ℕ) → a / 2 < used g → b / 2 < used g
      → question (inputs_of h) (vertices h) a b limit nodes ≡ question (inputs_of g) (vertices g) a b limit nodes
  same_question a b limit nodes ua ub =
      let fs : functions_of (inputs_of h) (vertices h) ≡ functions_of (inputs_of g) (vertices g) = fun_ext (λ v. fun_ext (λ code. same_function v code)) in
      let f : value (inputs_of h) (vertices h) a ≡ value (inputs_of g) (vertices g) a = fun_ext (same_value a ua) in
      let s : value (inputs_of h) (vertices h) b ≡ value (inputs_of g) (vertices g) b = fun_ext (same_value b ub) in
      λ i. record { inputs = m.inputs i; used = m.number i; functions = fs i; first = f i; second = s i; limit = limit; nodes = nodes }

  module _ (k : Graph) (l : OnlyMerged h k) where
    both_functions : (code v : ℕ) → v < used g → function_in k code v ≡ function_in g code v
    both_functions code v u = l.functions code v (omega (arith, m.number)) ∙ m.functions code v u

    both_alike : (code v : ℕ) → v < used g → function_in g code v ≡ net_value (function_in g code) (link_of (vertices k) v)
    both_alike code v u =
        let low = low_links k v (omega (arith, l.number, m.number)) in
        sym (both_functions code v u)
        ∙ (whole_of k).equal code v (omega (arith, l.number, m.number))
        ∙ ap (flip not (link_of (vertices k) v % 2)) (both_functions code (link_of (vertices k) v / 2) (omega (arith, low)))

    pub merged_again : OnlyMerged g k
    merged_again = record {
      inputs = l.inputs ∙ m.inputs;
      places = l.places ∙ m.places;
      number = l.number ∙ m.number;
      functions = both_functions;
      falls = λ v u s. m.falls v u (l.falls v (omega (arith, m.number)) s);
      composed = composed_more (vertices g) (vertices h) (vertices k) m.number (low_links g) m.composed l.composed;
      alike = both_alike;
    }
