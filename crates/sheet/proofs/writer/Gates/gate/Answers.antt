-- What is left to show of `writer::Gates::gate`, beyond what the search finds.
use Rattle.std.proofs.Common.{◌≡◌, ℕ, ◌+◌, refl, ◌∙◌, arith}
use Rattle.sheet.specs.Format.{gate_bytes, number_bytes}
use Rattle.sheet.specs.Written.{put, gates_end}
use Rattle.sheet.proofs.Writing.{add_gate}
use Rattle.sheet.proofs.Fields.{two_bytes}
use Rattle.sheet.proofs.writer.Gates.gate.Goals as goal

pub returns-clause-state : goal.returns-clause-state
returns-clause-state c =
    let at : ℕ = gates_end c.args.self.gates in
    let wrote : c.put-2.new.place ≡ put (put c.args.place.now at (gate_bytes c.args.gate)) 3 (number_bytes (c.args.self.gates + 1)) =
    c.put-2.ensures ∙ (λ i. put ((c.put.ensures ∙ (λ j. put c.args.place.now (c.in-Ok.ensures.goes.at j) (c.gate_bytes.ensures j))) i) 3 ((c.to_be_bytes.ensures ∙ two_bytes (c.args.self.gates + 1) (omega arith)) i)) in
    record { inputs = refl; gates = refl; writes = wrote; holds = add_gate c.args.place.now c.put-2.new.place c.args.self _ c.args.gate refl refl c.in-Ok.ensures.goes.fits wrote }
