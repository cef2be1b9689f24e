-- Words of 8 bytes, the low byte first. Assumes nothing: these are definitions.
use Rattle.std.specs.Prelude.{ℕ, ◌*◌, List, ℤ}
use Rattle.std.specs.Int.{w64}
use Rattle.std.proofs.Common.{of_z, to_z}
use Rattle.std.specs.List.{flat_map}
use Rattle.wire.specs.Number.{eight, eight_of}

-- the bytes of a row of words
abbrev pub bytes_of : List ℕ → List ℕ
bytes_of ws = flat_map eight_of ws

-- word k of a row of bytes
unfoldable pub word : List ℕ → ℕ → ℕ
word bs k = eight bs (8 * k)

-- a number with its sign as a word, in two's complement, and the number that a word says
abbrev pub word_of : ℤ → ℕ
word_of x = of_z w64 x

abbrev pub number_in : ℕ → ℤ
number_in x = to_z w64 x
