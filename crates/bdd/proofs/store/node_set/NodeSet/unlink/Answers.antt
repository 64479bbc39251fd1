-- With one node less the nodes are good, and the index has each.
use Rattle.std.proofs.Common.{◌≡◌, ℕ, ◌+◌, ◌<◌, List, [], ◌∷◌, ◌++◌, length, set, vec_items, sym, ap, ◌∙◌, subst, arith, length-append, length-set, rules}
use Rattle.bdd.specs.declared.store.nodes.Node.{Node}
use Rattle.bdd.specs.Diagram.{Good}
use Rattle.bdd.specs.Index.{bucket_of, LinkedBy}
use Rattle.bdd.proofs.Chains.{linked_pop, good_pop}
use Rattle.bdd.proofs.store.node_set.NodeSet.unlink.Goals as goal

pub invariant_of-self-clause-good : goal.invariant_of-self-clause-good
invariant_of-self-clause-good c =
    good_pop (vec_items c.take_last-n.new.self) c.take_last-n.result (subst Good c.take_last-n.ensures.items c.args.self.now.good)

pub invariant_of-self-clause-linked : goal.invariant_of-self-clause-linked
invariant_of-self-clause-linked c =
    let s = c.args.self.now in
    let ms : List Node = vec_items s.nodes in
    let ns : List Node = vec_items c.take_last-n.new.self in
    let nx : List ℕ = vec_items c.take_last-before.new.self in
    let hs : List ℕ = vec_items s.heads in
    let n : Node = c.take_last-n.result in
    let x : ℕ = c.take_last-before.result in
    let m : ℕ = length hs in
    let items : ms ≡ ns ++ n ∷ [] = c.take_last-n.ensures.items in
    let next_items : vec_items s.next ≡ nx ++ x ∷ [] = c.take_last-before.ensures.items in
    let wide : c.len.result ≡ m = search rules in
    let b : ℕ = c.bucket-b.result in
    let bis : b ≡ bucket_of m n = c.bucket-b.ensures.0 ∙ ap (λ k. bucket_of k n) wide in
    let blt : b < m = omega (arith, c.bucket-b.ensures.1) in
    let l : LinkedBy m (ns ++ n ∷ []) (nx ++ x ∷ []) hs = subst (λ y. LinkedBy m y (nx ++ x ∷ []) hs) items (subst (λ y. LinkedBy m ms y hs) next_items s.linked) in
    let a₁ : length (ns ++ n ∷ []) ≡ length ns + 1 = simp length-append in
    let a₂ : length (nx ++ x ∷ []) ≡ length nx + 1 = simp length-append in
    let nl : length nx ≡ length ns = omega (arith, l.long) in
    let popped = linked_pop m ns nx hs n x l nl (subst (λ k. k < m) bis blt) in
    let linked : LinkedBy m ns nx (set hs b x) = subst (λ k. LinkedBy m ns nx (set hs k x)) (sym bis) popped in
    let new_wide : m ≡ length (set hs b x) = sym (length-set hs b x) in
    subst (λ k. LinkedBy k ns nx (set hs b x)) new_wide linked
