-- What is left to show of `writer::Outputs::output`, beyond what the search finds.
use Rattle.std.proofs.Common.{◌≡◌, ℕ, ◌+◌, length, refl, ◌∙◌, arith}
use Rattle.sheet.specs.Format.{Output, names, output_bytes, number_bytes}
use Rattle.sheet.specs.Written.{put, gates_end}
use Rattle.sheet.specs.Names.{output_of}
use Rattle.sheet.proofs.Writing.{add_output}
use Rattle.sheet.proofs.Refusing.{not_refused}
use Rattle.sheet.proofs.Fields.{two_bytes}
use Rattle.sheet.proofs.writer.Outputs.output.Goals as goal

pub returns-clause-state : goal.returns-clause-state
returns-clause-state c =
    let o : Output = output_of c.args.output in
    let at : ℕ = gates_end c.args.self.gates in
    let wrote : c.put.new.place ≡ put (put c.args.place.now c.args.self.end (output_bytes o)) at (number_bytes (c.args.self.outputs + 1)) =
    c.put.ensures ∙ (λ i. put (c.put_output.ensures i) (c.end_of_gates.ensures i) ((c.to_be_bytes.ensures ∙ two_bytes (c.args.self.outputs + 1) (omega arith)) i)) in
    record {
      inputs = refl;
      gates = refl;
      outputs = refl;
      end = c.in-Ok.ensures.goes.end;
      writes = wrote;
      holds = λ b d h. add_output c.args.place.now c.put.new.place c.args.self _ o refl refl refl c.in-Ok.ensures.goes.end wrote c.in-Ok.ensures.goes.few b d (not_refused (length c.args.place.now) c.args.self (names d.outputs) o (c.in-Ok.ensures.refusal b d h)) h;
    }
