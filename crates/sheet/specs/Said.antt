-- What some bytes say, if they are a sheet without fault; and that a lawful content is lawful in one way.
use Rattle.std.specs.Prelude.{◌≡◌, ℕ, ◌+◌, Bool, List, [], ◌∷◌, ◌++◌, length}
use Rattle.std.specs.Coded.{Coded-set, coded_bool, ×_prop, Unit-prop}
use Rattle.sheet.specs.declared.gate.Gate.{Gate}
use Rattle.sheet.specs.Format.{Content, Decoded, content, fault, decode, Output, names}
use Rattle.sheet.specs.Laws.{GateFits, OutputFits, EachFits, NextGateFits, NextOutputFits, Lawful}

abbrev pub content_in : Decoded → Content
content_in (content c) = c
content_in (fault f s p) = record { inputs = 0; gates = []; outputs = [] }

abbrev pub said_by : List ℕ → Content
said_by bs = content_in (decode bs)

same_test : {a b : Bool} → IsProp (a ≡ b)
same_test {a} {b} = Coded-set coded_bool a b

GateFits-prop : (own : ℕ) (g : Gate) → IsProp (GateFits own g)
GateFits-prop own g p q = λ i. record { kind = same_test p.kind q.kind i; a = same_test p.a q.a i; b = same_test p.b q.b i; c = same_test p.c q.c i }

OutputFits-prop : (signals : ℕ) (earlier : List (List ℕ)) (o : Output) → IsProp (OutputFits signals earlier o)
OutputFits-prop signals earlier o p q = λ i. record { signal = same_test p.signal q.signal i; long = same_test p.long q.long i; name = same_test p.name q.name i }

EachFits-prop : {X : Type 0} (Fits : List X → X → Type 0) → ((done : List X) (x : X) → IsProp (Fits done x)) → (done xs : List X) → IsProp (EachFits Fits done xs)
EachFits-prop Fits one done [] = Unit-prop
EachFits-prop Fits one done (x ∷ xs) = ×_prop (one done x) (EachFits-prop Fits one (done ++ x ∷ []) xs)

pub Lawful-prop : (c : Content) → IsProp (Lawful c)
Lawful-prop c p q = λ i. record {
  inputs = same_test p.inputs q.inputs i;
  few_gates = same_test p.few_gates q.few_gates i;
  gates = EachFits-prop (NextGateFits c.inputs) (λ done g. GateFits-prop _ g) [] c.gates p.gates q.gates i;
  few_outputs = same_test p.few_outputs q.few_outputs i;
  outputs = EachFits-prop (NextOutputFits (c.inputs + 2 + length c.gates)) (λ done o. OutputFits-prop _ (names done) o) [] c.outputs p.outputs q.outputs i;
}
