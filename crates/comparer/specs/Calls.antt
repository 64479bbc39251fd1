-- What each call of a session does: which answer it gives, when it is refused and by which number, and what the session
-- then holds. A refused call leaves the session as it was.
use Rattle.std.specs.Prelude.{◌≡◌, ℕ, Bool, ◌⊎◌, List, [], length, Some, None, Ok, Err, Result}
use Rattle.gates.specs.declared.kind.Kind.{Kind}
use Rattle.gates.specs.Kinds as kinds
use Rattle.aig.specs.declared.net.Net.{Net}
use Rattle.aig.specs.Table.{opening}
use Rattle.aig.specs.Values.{value}
use Rattle.aig.specs.Kinds as gates
use Rattle.comparer.specs.declared.refusal.Refusal.{Refusal}
use Rattle.comparer.specs.declared.refusal.Refusal.TheVariants.{Memory}
use Rattle.comparer.specs.declared.session.Session.{Session}
use Rattle.comparer.specs.Refusals.{number_of}
use Rattle.comparer.specs.Sessions.{inputs_of, places_of, vertices}
use Rattle.comparer.specs.Checks.{open_refusal, gate_refusal, value_refusal}

-- a session that is not opened has no input, no place and no vertex in use
pub record Unopened (s : Session) : Type 0 where
  pub inputs : inputs_of s ≡ 0
  pub places : places_of s ≡ 0
  pub none : vertices s ≡ []

-- one that was just opened has the constant and its inputs
pub record Fresh (n places : ℕ) (s : Session) : Type 0 where
  pub inputs : inputs_of s ≡ n
  pub places_are : places_of s ≡ places
  pub table : vertices s ≡ opening n

-- memory can be wanting only where no check fails
abbrev pub Wanting : ℕ → ℕ → Refusal → Type 0
Wanting n places e = (e ≡ Memory) × (open_refusal n places ≡ None)

abbrev pub Opened : Session → ℕ → ℕ → Result (Unit {0}) Refusal → Session → Type 0
Opened s n places (Ok _) t = (open_refusal n places ≡ None) × Fresh n places t
Opened s n places (Err e) t = ((open_refusal n places ≡ Some (number_of e)) ⊎ Wanting n places e) × (t ≡ s)

-- the session has the gate's net: that of its kind's ANDs, with its kind's Boolean function under every code, and no net
-- in use changes its value
pub record HasGate (s : Session) (kind a b c net : ℕ) (t : Session) : Type 0 where
  pub known : Kind
  pub numbered : kinds.number_of known ≡ kind
  pub made : gates.Gated (inputs_of s) (vertices s) known a b c net (vertices t)
  pub inputs : inputs_of t ≡ inputs_of s
  pub places : places_of t ≡ places_of s

abbrev pub Gated : Session → ℕ → Net → Net → Net → Result Net Refusal → Session → Type 0
Gated s kind a b c (Ok net) t = (gate_refusal s kind a.0 b.0 c.0 ≡ None) × HasGate s kind a.0 b.0 c.0 net.0 t
Gated s kind a b c (Err e) t = (gate_refusal s kind a.0 b.0 c.0 ≡ Some (number_of e)) × (t ≡ s)

-- the bit is the net's value; a refused call leaves the words of workspace too
abbrev pub Valued : Session → Net → ℕ → List ℕ → Result Bool Refusal → List ℕ → Type 0
Valued s x code words (Ok b) words' = (value_refusal s x.0 code (length words) ≡ None) × (b ≡ value (inputs_of s) (vertices s) x.0 code)
Valued s x code words (Err e) words' = (value_refusal s x.0 code (length words) ≡ Some (number_of e)) × (words' ≡ words)
