-- The fold over the codes from the last to the first packs their bits into a word.
use Rattle.std.proofs.Common.{◌≡◌, fold, reverse, ap, ◌∙◌, rules}
use Rattle.aig.specs.Values.{bit}
use Rattle.simulation.proofs.Bitwise.{taken, taken_bit}
use Rattle.simulation.proofs.codes.Codes.gather.Goals as goal

pub returns : goal.returns
returns c k h =
    let is : c.fold.result ≡ fold (taken c.args.input) 0 (reverse c.args.self.list.now) = search rules in
    ap (λ w. bit w k) is ∙ taken_bit c.args.input c.args.self.list.now c.args.self.few k h
