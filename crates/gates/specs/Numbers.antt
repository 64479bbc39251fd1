-- What comes of taking a number for a gate kind.
use Rattle.std.specs.Prelude.{◌≡◌, ℕ, true, false, Result, MatchResult}
use Rattle.gates.specs.Kinds.{number_of, is_kind}
use Rattle.gates.specs.declared.kind.Kind.{Kind}
use Rattle.gates.specs.declared.kind.UnknownKind.{UnknownKind}

-- the kind that the number names; or the number itself, which names none
abbrev pub Names : ℕ → Result Kind UnknownKind → Type 0
Names number r = MatchResult r (λ k. (is_kind number ≡ true) × (number_of k ≡ number)) (λ e. (is_kind number ≡ false) × (e.0 ≡ number))
