-- Numbers in bytes, the low byte first. Assumes nothing: these are definitions.
use Rattle.std.specs.Prelude.{ℕ, ◌+◌, ◌*◌, ◌/◌, ◌%◌, List, [], ◌∷◌, ◌++◌, slice_index}

-- the number in the two, four or eight bytes from place i on
abbrev pub two : List ℕ → ℕ → ℕ
two bs i = slice_index bs i + slice_index bs (i + 1) * 256

abbrev pub four : List ℕ → ℕ → ℕ
four bs i = two bs i + two bs (i + 2) * 65536

abbrev pub eight : List ℕ → ℕ → ℕ
eight bs i = four bs i + four bs (i + 4) * 4294967296

-- a number as two, four or eight bytes
unfoldable pub two_of : ℕ → List ℕ
two_of n = n % 256 ∷ n / 256 % 256 ∷ []

unfoldable pub four_of : ℕ → List ℕ
four_of n = two_of (n % 65536) ++ two_of (n / 65536)

unfoldable pub eight_of : ℕ → List ℕ
eight_of n = four_of (n % 4294967296) ++ four_of (n / 4294967296)
