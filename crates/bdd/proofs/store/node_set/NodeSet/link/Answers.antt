-- With one node more the nodes are good, and the index has the new one.
use Rattle.std.proofs.Common.{◌≡◌, ℕ, ◌+◌, ◌<◌, List, [], ◌∷◌, ◌++◌, length, get_or, set, vec_items, sym, ap, ◌∙◌, subst, arith, length-set, rules}
use Rattle.std.proofs.lemmas.List.{get_or_read}
use Rattle.bdd.specs.declared.store.nodes.Node.{Node}
use Rattle.bdd.specs.Diagram.{Good}
use Rattle.bdd.specs.Index.{bucket_of, LinkedBy}
use Rattle.bdd.proofs.Values.{good_push}
use Rattle.bdd.proofs.Chains.{linked_push}
use Rattle.bdd.proofs.store.node_set.NodeSet.link.Goals as goal

pub invariant_of-self-clause-good : goal.invariant_of-self-clause-good
invariant_of-self-clause-good c =
    let s = c.args.self.now in
    subst Good (sym c.push_reserved-2.ensures.items) (good_push (vec_items s.nodes) c.args.n s.good c.requires.fits c.requires.fresh)

pub invariant_of-self-clause-linked : goal.invariant_of-self-clause-linked
invariant_of-self-clause-linked c =
    let s = c.args.self.now in
    let ns : List Node = vec_items s.nodes in
    let nx : List ℕ = vec_items s.next in
    let hs : List ℕ = vec_items s.heads in
    let n : Node = c.args.n in
    let m : ℕ = length hs in
    let wide : c.len.result ≡ m = search rules in
    let b : ℕ = c.bucket-b.result in
    let bis : b ≡ bucket_of m n = c.bucket-b.ensures.0 ∙ ap (λ k. bucket_of k n) wide in
    let blt : b < m = omega (arith, c.bucket-b.ensures.1) in
    let before : c.index.result.now ≡ get_or hs b 0 = get_or_read hs b c.index.result.now blt c.index.ensures 0 in
    let items : vec_items c.push_reserved-2.new.self ≡ ns ++ n ∷ [] = c.push_reserved-2.ensures.items in
    let next_items : vec_items c.push_reserved.new.self ≡ nx ++ get_or hs (bucket_of m n) 0 ∷ [] =
    c.push_reserved.ensures.items ∙ ap (λ x. nx ++ x ∷ []) (before ∙ ap (λ k. get_or hs k 0) bis) in
    let new_len : c.len-2.result ≡ length ns + 1 = omega (arith, c.len-2.ensures, c.push_reserved-2.ensures.len) in
    let heads_are : set hs b c.len-2.result ≡ set hs (bucket_of m n) (length ns + 1) = ap (λ k. set hs k c.len-2.result) bis ∙ ap (set hs (bucket_of m n)) new_len in
    let new_wide : m ≡ length (set hs b c.len-2.result) = sym (length-set hs b c.len-2.result) in
    let pushed = linked_push m ns nx hs n s.linked (subst (λ k. k < m) bis blt) in
    let linked : LinkedBy m (vec_items c.push_reserved-2.new.self) (vec_items c.push_reserved.new.self) (set hs b c.len-2.result) =
    subst (λ x. LinkedBy m x (vec_items c.push_reserved.new.self) (set hs b c.len-2.result)) (sym items)
    (subst (λ x. LinkedBy m (ns ++ n ∷ []) x (set hs b c.len-2.result)) (sym next_items)
    (subst (λ x. LinkedBy m (ns ++ n ∷ []) (nx ++ get_or hs (bucket_of m n) 0 ∷ []) x) (sym heads_are) pushed)) in
    subst (λ k. LinkedBy k (vec_items c.push_reserved-2.new.self) (vec_items c.push_reserved.new.self) (set hs b c.len-2.result)) new_wide linked
