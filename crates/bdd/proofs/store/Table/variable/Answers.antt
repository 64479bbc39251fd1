-- The node of a variable has its function, and is a part of it.
use Rattle.std.proofs.Common.{List, [], ◌∷◌, ◌++◌, MatchOption, ap, subst, arith}
use Rattle.bdd.specs.declared.store.nodes.Node.{Node}
use Rattle.bdd.specs.Steps.{Made, Short}
use Rattle.bdd.specs.Contents.{Full, nodes_of, limit_of}
use Rattle.bdd.specs.Calls.{Built, Refused}
use Rattle.bdd.proofs.Values.{cases_map, grown_self}
use Rattle.bdd.proofs.Variables.{variable_value, variable_parts}
use Rattle.bdd.proofs.Counting.{refusal}
use Rattle.bdd.proofs.store.Table.variable.Goals as goal

pub returns : goal.returns
returns c =
    let t = c.args.self.now in
    let u = c.mk.new.self in
    let ns : List Node = nodes_of t in
    let ms : List Node = nodes_of u in
    let v = c.args.v in
    let kept = c.mk.ensures.kept in
    cases_map c.mk.result (Full t u × Short ns v 1 0) (Refused t u (λ ρ. ρ v)) (Made ns ms v 1 0) (Built t u (λ ρ. ρ v))
    (λ out. let full = out.0 in let lack = out.1 in record {
      same = record { nodes = ap nodes_of full.1; limit_is = kept.limit_is };
      too_many = refusal ns ns (λ ρ. ρ v) (limit_of t) lack.extra t.set.good (grown_self ns) (omega (arith, full.0)) lack.good
          (variable_parts ns (ns ++ lack.extra ∷ []) v lack.result lack.made);
    })
    (λ e made. record {
      limit_is = kept.limit_is;
      grown = kept.grown;
      inside = made.inside;
      value_is = variable_value ns ms v e made;
      parts = variable_parts ns ms v e made;
    })
    (subst (λ (m : Node). MatchOption c.mk.result (Full t u × Short ns m.var m.high m.low) (Made ns ms m.var m.high m.low)) c.of_variable.ensures c.mk.ensures.cases)
