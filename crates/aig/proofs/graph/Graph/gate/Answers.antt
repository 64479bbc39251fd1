-- Each kind by its ANDs, and its Boolean function by theirs.
use Rattle.std.proofs.Common.{not, refl, ap}
use Rattle.aig.specs.Values.{value}
use Rattle.aig.specs.Graphs.{inputs_of, vertices}
use Rattle.aig.proofs.Making.{value_inverse, makes_and, makes_inverse, makes_same, makes_none, gated_as, or_function, nor_function, xor_function, mux_function}
use Rattle.aig.proofs.graph.Graph.gate.Goals as goal

pub returns-in-Or-clause-made : goal.returns-in-Or-clause-made
returns-in-Or-clause-made c =
    let n = inputs_of c.args.self.now in
    let t = vertices c.args.self.now in
    gated_as c.args.a.0 c.args.b.0 c.args.c.0 c.in-Or.is (makes_inverse _ (λ code. or_function (value n t c.args.a.0 code) (value n t c.args.b.0 code) _ _ (value_inverse n t c.args.a.0 code) (value_inverse n t c.args.b.0 code))
    _ c.inverse-in-Or-2.ensures (makes_and _ (λ code. refl) (rw (c.inverse.ensures, c.inverse-in-Or.ensures) at c.and-in-Or.ensures.made)))

pub returns-in-Nand-clause-made : goal.returns-in-Nand-clause-made
returns-in-Nand-clause-made c =
    gated_as c.args.a.0 c.args.b.0 c.args.c.0 c.in-Nand.is (makes_inverse _ (λ code. refl) _ c.inverse-in-Nand.ensures (makes_and _ (λ code. refl) c.and-in-Nand.ensures.made))

pub returns-in-Nor-clause-made : goal.returns-in-Nor-clause-made
returns-in-Nor-clause-made c =
    let n = inputs_of c.args.self.now in
    let t = vertices c.args.self.now in
    gated_as c.args.a.0 c.args.b.0 c.args.c.0 c.in-Nor.is (makes_and _ (λ code. nor_function (value n t c.args.a.0 code) (value n t c.args.b.0 code) _ _ (value_inverse n t c.args.a.0 code) (value_inverse n t c.args.b.0 code))
    (rw (c.inverse-in-Nor.ensures, c.inverse-in-Nor-2.ensures) at c.and-in-Nor.ensures.made))

pub returns-in-Xor-clause-made : goal.returns-in-Xor-clause-made
returns-in-Xor-clause-made c =
    let n = inputs_of c.args.self.now in
    let t = vertices c.args.self.now in
    gated_as c.args.a.0 c.args.b.0 c.args.c.0 c.in-Xor.is (makes_same _ (λ code. xor_function (value n t c.args.a.0 code) (value n t c.args.b.0 code) _ _ (value_inverse n t c.args.a.0 code) (value_inverse n t c.args.b.0 code))
    (rw (c.inverse-in-Xor.ensures, c.inverse-in-Xor-2.ensures) at c.neither.ensures.made))

pub returns-in-Xnor-clause-made : goal.returns-in-Xnor-clause-made
returns-in-Xnor-clause-made c =
    let n = inputs_of c.args.self.now in
    let t = vertices c.args.self.now in
    gated_as c.args.a.0 c.args.b.0 c.args.c.0 c.in-Xnor.is (makes_inverse _ (λ code. ap not (xor_function (value n t c.args.a.0 code) (value n t c.args.b.0 code) _ _ (value_inverse n t c.args.a.0 code) (value_inverse n t c.args.b.0 code)))
    _ c.inverse-in-Xnor-3.ensures (rw (c.inverse-in-Xnor.ensures, c.inverse-in-Xnor-2.ensures) at c.neither-in-Xnor.ensures.made))

pub returns-in-Not-clause-made : goal.returns-in-Not-clause-made
returns-in-Not-clause-made c =
    gated_as c.args.a.0 c.args.b.0 c.args.c.0 c.in-Not.is (makes_inverse _ (λ code. refl) _ c.inverse-in-Not.ensures (makes_none c.args.a.0 c.args.a.0 c.requires.first refl))

pub returns-in-Mux-clause-made : goal.returns-in-Mux-clause-made
returns-in-Mux-clause-made c =
    let n = inputs_of c.args.self.now in
    let t = vertices c.args.self.now in
    gated_as c.args.a.0 c.args.b.0 c.args.c.0 c.in-Mux.is (makes_inverse _ (λ code. mux_function (value n t c.args.a.0 code) (value n t c.args.b.0 code) (value n t c.args.c.0 code) _ (value_inverse n t c.args.a.0 code))
    _ c.inverse-in-Mux-2.ensures (rw c.inverse-in-Mux.ensures at c.neither-in-Mux.ensures.made))
