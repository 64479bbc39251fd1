-- What conjoin promises; a refusal is cut back to the mark.
use Rattle.std.proofs.Common.{ℕ, ◌≤◌, Bool, List, length, sym, ◌∙◌, arith}
use Rattle.bdd.specs.declared.store.nodes.Node.{Node}
use Rattle.bdd.specs.Parts.{conj}
use Rattle.bdd.specs.Steps.{Both, Lacking}
use Rattle.bdd.specs.Calls.{Built, Refused}
use Rattle.bdd.specs.Contents.{nodes_of, limit_of}
use Rattle.bdd.proofs.Values.{none_map, grown_take}
use Rattle.bdd.proofs.Counting.{refusal}
use Rattle.bdd.proofs.store.Table.and.Goals as goal

pub returns-then-is_none : goal.returns-then-is_none
returns-then-is_none c =
    let t = c.args.self.now in
    let u = c.conjoin-result.new.self in
    let w = c.cut.new.self in
    let ns : List Node = nodes_of t in
    let ms : List Node = nodes_of u in
    let φ : (ℕ → Bool) → Bool = conj ns c.args.f c.args.g in
    let k = c.conjoin-result.ensures.kept in
    none_map c.conjoin-result.result ((limit_of u ≤ length ms) × Lacking ns ms c.args.f c.args.g) (Refused t w φ) (Both ns ms c.args.f c.args.g) (Built t w φ) c.if-is_none.ensures
    (λ out. let full = out.0 in let lack = out.1 in record {
      same = record {
        nodes = c.cut.ensures.nodes ∙ sym (grown_take ns ms c.len-mark.result (sym c.len-mark.ensures) k.grown);
        limit_is = c.cut.ensures.limit ∙ k.limit_is;
      };
      too_many = refusal ns ms φ (limit_of t) lack.extra t.set.good k.grown (omega (arith, k.limit_is)) lack.good lack.parts.part;
    })
    c.conjoin-result.ensures.cases
