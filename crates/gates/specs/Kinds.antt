-- The nine gate kinds: the number of each, which operands it reads, and its Boolean function.
use Rattle.std.specs.Prelude.{ℕ, Bool, true, false, cond, not, ◌&&◌, ◌||◌, ◌==◌, nat_le}
use Rattle.gates.specs.declared.kind.Kind.{Kind}
use Rattle.gates.specs.declared.kind.Kind.TheVariants.{And, Or, Nand, Nor, Xor, Xnor, Not, Buf, Mux}

-- the number by which each kind is known
abbrev pub number_of : Kind → ℕ
number_of And = 1
number_of Or = 2
number_of Nand = 3
number_of Nor = 4
number_of Xor = 5
number_of Xnor = 6
number_of Not = 7
number_of Buf = 8
number_of Mux = 9

abbrev pub between : ℕ → ℕ → ℕ → Bool
between low high n = nat_le low n && nat_le n high

-- whether a number names a kind
abbrev pub is_kind : ℕ → Bool
is_kind = between 1 9

-- every kind reads a, all but NOT and BUF read b, and MUX alone reads c
abbrev pub reads_b : ℕ → Bool
reads_b number = not (between 7 8 number)

abbrev pub reads_c : ℕ → Bool
reads_c number = number == 9

abbrev pub differ : Bool → Bool → Bool
differ true b = not b
differ false b = b

-- the Boolean function of each kind
abbrev pub function_of : Kind → Bool → Bool → Bool → Bool
function_of And a b c = a && b
function_of Or a b c = a || b
function_of Nand a b c = not (a && b)
function_of Nor a b c = not (a || b)
function_of Xor a b c = differ a b
function_of Xnor a b c = not (differ a b)
function_of Not a b c = not a
function_of Buf a b c = a
function_of Mux a b c = cond a b c
