-- The size of a function: the functions got from it by fixing the inputs before some input in some way, that depend on that
-- input, equal or opposite ones counted once. Nothing here speaks of nodes.
use Rattle.std.specs.Prelude.{◌≡◌, ℕ, suc, ◌<◌, Bool, true, false, cond, not, ◌&&◌, ◌||◌, ◌⊎◌, List, [], ◌∷◌, ◌++◌, ◌==◌}

-- The values of a function: of no input, or by the first input, where it is true and where it is false.
pub data Fn : Type 0 where
  one : Bool → Fn
  fork : Fn → Fn → Fn

abbrev pub same_bit : Bool → Bool → Bool
same_bit true b = b
same_bit false b = not b

abbrev pub same : Fn → Fn → Bool
same (one a) (one b) = same_bit a b
same (one a) (fork x y) = false
same (fork x y) (one b) = false
same (fork x y) (fork z w) = same x z && same y w

abbrev pub opposite : Fn → Fn
opposite (one b) = one (not b)
opposite (fork x y) = fork (opposite x) (opposite y)

-- what comes of fixing inputs from the first on, where it depends on the next
abbrev pub parts : Fn → List Fn
parts (one b) = []
parts (fork x y) = cond (same x y) [] (fork x y ∷ []) ++ (parts x ++ parts y)

-- equal or opposite to one of the list
abbrev pub known : Fn → List Fn → Bool
known t [] = false
known t (u ∷ us) = same t u || (same t (opposite u) || known t us)

abbrev pub distinct : List Fn → ℕ
distinct [] = 0
distinct (t ∷ ts) = cond (known t ts) (distinct ts) (suc (distinct ts))

-- how many nodes the diagram of the function has
abbrev pub size : Fn → ℕ
size t = distinct (parts t)

-- the table of a function of assignments, over the inputs vs; the others are as in ρ
abbrev pub with_input : (ℕ → Bool) → ℕ → Bool → ℕ → Bool
with_input ρ v b w = cond (w == v) b (ρ w)

abbrev pub table : List ℕ → ((ℕ → Bool) → Bool) → (ℕ → Bool) → Fn
table [] φ ρ = one (φ ρ)
table (v ∷ vs) φ ρ = fork (table vs φ (with_input ρ v true)) (table vs φ (with_input ρ v false))

abbrev pub size_of : List ℕ → ((ℕ → Bool) → Bool) → ℕ
size_of vs φ = size (table vs φ (λ _. false))

-- the parts of all of these functions together, equal or opposite ones counted once
abbrev pub all_parts : List ℕ → List ((ℕ → Bool) → Bool) → List Fn
all_parts vs [] = []
all_parts vs (φ ∷ φs) = parts (table vs φ (λ _. false)) ++ all_parts vs φs

abbrev pub size_of_all : List ℕ → List ((ℕ → Bool) → Bool) → ℕ
size_of_all vs φs = distinct (all_parts vs φs)

abbrev pub In : ℕ → List ℕ → Type 0
In w [] = ⊥
In w (v ∷ vs) = (w ≡ v) ⊎ In w vs

abbrev pub Above : ℕ → List ℕ → Type 0
Above v [] = Unit {0}
Above v (w ∷ ws) = (v < w) × Above v ws

abbrev pub Ascending : List ℕ → Type 0
Ascending [] = Unit {0}
Ascending (v ∷ vs) = Above v vs × Ascending vs

-- the function looks at no input but these
abbrev pub Only : List ℕ → ((ℕ → Bool) → Bool) → Type 0
Only vs φ = (ρ ρ' : ℕ → Bool) → ((u : ℕ) → In u vs → ρ u ≡ ρ' u) → φ ρ ≡ φ ρ'
