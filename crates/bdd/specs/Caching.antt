-- The cache of conjunctions: which it knows, and that they are right.
use Rattle.std.specs.Prelude.{◌≡◌, ℕ, ◌<◌, ◌≤◌, ◌⊎◌, List, length, slice_index_or}
use Rattle.bdd.specs.declared.store.nodes.Node.{Node}
use Rattle.bdd.specs.declared.store.cache.Entry.{Entry}
use Rattle.bdd.specs.Diagram.{Within}
use Rattle.bdd.specs.Steps.{Both}

abbrev pub entry : ℕ → ℕ → ℕ → ℕ → Entry
entry f g r s = record { pair = record { f = f; g = g }; result = r; stamp = s }

abbrev pub entry_at : List Entry → ℕ → Entry
entry_at es k = slice_index_or es k (entry 0 0 0 0)

-- no entry has a stamp past this one
abbrev pub Stamped : List Entry → ℕ → Type 0
Stamped es stamp = (k : ℕ) → k < length es → (entry_at es k).stamp ≤ stamp

-- an entry under the stamp says that r is the conjunction of f and g
pub record Known (es : List Entry) (stamp f g r : ℕ) : Type 0 where
  pub spot : ℕ
  pub inside : spot < length es
  pub entry_is : entry_at es spot ≡ entry f g r stamp

abbrev pub KnowsNone : List Entry → ℕ → Type 0
KnowsNone es stamp = (f g r : ℕ) → Known es stamp f g r → ⊥

-- what the new entries know was known before, or is that r is the conjunction of f and g
abbrev pub KnownAfter : List Entry → List Entry → ℕ → ℕ → ℕ → ℕ → Type 0
KnownAfter old new stamp f g r = (f' g' r' : ℕ) → Known new stamp f' g' r' → Known old stamp f' g' r' ⊎ ((f' ≡ f) × (g' ≡ g) × (r' ≡ r))

-- r is the conjunction of f and g
pub record Right (ns : List Node) (f g r : ℕ) : Type 0 where
  pub f_inside : Within ns f
  pub g_inside : Within ns g
  pub both : Both ns ns f g r

-- whatever is known is right
abbrev pub AllRight : List Node → List Entry → ℕ → Type 0
AllRight ns es stamp = (f g r : ℕ) → Known es stamp f g r → Right ns f g r
