-- Words of workspace that hold values.
use Rattle.std.specs.Prelude.{ℕ, Bool, List, ◌==◌, slice_index}

-- the value of the vertex `v` that the words hold
abbrev pub held : List ℕ → ℕ → Bool
held words v = slice_index words v == 1
