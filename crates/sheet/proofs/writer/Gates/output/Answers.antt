-- What is left to show of `writer::Gates::output`, beyond what the search finds.
use Rattle.std.proofs.Common.{◌≡◌, ℕ, ◌+◌, refl, ◌∙◌, arith}
use Rattle.sheet.specs.Format.{output_bytes, number_bytes, Output}
use Rattle.sheet.specs.Written.{put, gates_end}
use Rattle.sheet.specs.Names.{output_of}
use Rattle.sheet.proofs.Writing.{start_outputs}
use Rattle.sheet.proofs.Fields.{two_bytes}
use Rattle.sheet.proofs.writer.Gates.output.Goals as goal

pub returns-clause-state : goal.returns-clause-state
returns-clause-state c =
    let o : Output = output_of c.args.output in
    let at : ℕ = gates_end c.args.self.gates in
    let wrote : c.put_output.new.place ≡ put (put c.args.place.now at (number_bytes 1)) (at + 2) (output_bytes o) =
    c.put_output.ensures ∙ (λ i. put ((c.put.ensures ∙ (λ j. put c.args.place.now (c.end_of_gates-at.ensures j) ((c.to_be_bytes.ensures ∙ two_bytes 1 (omega arith)) j))) i) (c.end_of_gates-at.ensures i + 2) (output_bytes o)) in
    record {
      inputs = refl;
      gates = refl;
      outputs = refl;
      end = c.in-Ok.ensures.goes.end;
      writes = wrote;
      holds = start_outputs c.args.place.now c.put_output.new.place c.args.self _ o refl refl refl c.in-Ok.ensures.goes.end c.in-Ok.ensures.goes.fits wrote;
    }
