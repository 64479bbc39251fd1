-- Places that a sheet is written to.
use Rattle.std.specs.Prelude.{ℕ, ◌+◌, List, ◌++◌, length, take, drop}

-- the place, with `bs` written over its bytes from `at` on
abbrev pub put : List ℕ → ℕ → List ℕ → List ℕ
put place at bs = take at place ++ (bs ++ drop (at + length bs) place)
