-- Each line of the AND in turn; past the folds the pair is proper, and what was found decides.
use Rattle.std.proofs.Common.{◌≡◌, ℕ, ◌<◌, ◌≤◌, false, eqb, sym, arith, rules}
use Rattle.std.proofs.lemmas.Bool.{eqb-true, eqb-false}
use Rattle.aig.specs.Nets.{inverse}
use Rattle.aig.specs.Invariant.{Proper}
use Rattle.aig.specs.Pairs.{zero_first, one_first, same, opposed, folds, found}
use Rattle.aig.proofs.table.Table.lookup.Goals as goal

pub returns-in-FALSE-default : goal.returns-in-FALSE-default
returns-in-FALSE-default c = folds _ (zero_first (search rules))

pub returns-in-TRUE-default : goal.returns-in-TRUE-default
returns-in-TRUE-default c = folds _ (one_first (search rules))

pub returns-in_default : goal.returns-in_default
returns-in_default c = folds _ (same (eqb-true _ _ (sym c.if-eq.ensures)))

pub returns-in_default-2 : goal.returns-in_default-2
returns-in_default-2 c = folds _ (opposed (let e = eqb-true _ _ (sym c.if-eq-2.ensures) in omega (arith, c.inverse.ensures)))

-- past the folds
proper_pair : (a b i : ℕ) → 1 < a → a ≤ b → false ≡ eqb a b → i ≡ inverse a → false ≡ eqb b i → Proper a b
proper_pair a b i one le p e q =
    let ne = eqb-false _ _ (sym p) in
    let far = eqb-false _ _ (sym q) in
    (one, omega arith)

pub returns-in-Some : goal.returns-in-Some
returns-in-Some c = found _ (proper_pair _ _ _ (omega arith) c.args.pair.ordered c.if-eq.ensures c.inverse.ensures c.if-eq-2.ensures) c.in-Some.ensures

pub returns-in_default-3 : goal.returns-in_default-3
returns-in_default-3 c = record {
  proper = proper_pair _ _ _ (omega arith) c.args.pair.ordered c.if-eq.ensures c.inverse.ensures c.if-eq-2.ensures;
  absent = search rules;
}
