-- Lines, words and numbers in the bytes of a text. Assumes nothing: these are definitions.
use Rattle.std.specs.Prelude.{ℕ, ◌+◌, ◌-◌, ◌*◌, Bool, cond, not, ◌&&◌, ◌||◌, List, [], ◌∷◌, drop, take_while, Some, None, Option, ◌==◌, nat_le}
use Rattle.std.specs.List.{prefix_len}
use Rattle.disc.specs.Numbers.{within}

-- lines with one more byte before the first
unfoldable pub with_byte : ℕ → List (List ℕ) → List (List ℕ)
with_byte b [] = (b ∷ []) ∷ []
with_byte b (l ∷ ls) = (b ∷ l) ∷ ls

-- the lines of a text: each ends at a line feed, or with the text
unfoldable pub lines : List ℕ → List (List ℕ)
lines [] = []
lines (b ∷ bs) = cond (b == 10) ([] ∷ lines bs) (with_byte b (lines bs))

-- whether a byte is not c
abbrev pub other_than : ℕ → ℕ → Bool
other_than c b = not (b == c)

-- a line without its comment, which begins at '#'
abbrev pub before_comment : List ℕ → List ℕ
before_comment bs = take_while (other_than 35) bs

-- words are separated by spaces, tabs and carriage returns
abbrev pub blank : ℕ → Bool
blank b = b == 32 || (b == 9 || b == 13)

-- any other byte is part of a word
abbrev pub letter : ℕ → Bool
letter b = not (blank b)

-- a line from its first word on
abbrev pub from_word : List ℕ → List ℕ
from_word bs = drop (prefix_len blank bs) bs

-- a line's first word
unfoldable pub first_word : List ℕ → List ℕ
first_word bs = take_while letter (from_word bs)

-- what stands behind a line's first word
unfoldable pub after_word : List ℕ → List ℕ
after_word bs = drop (prefix_len letter (from_word bs)) (from_word bs)

-- no number may be above 2^50
abbrev pub most_number : ℕ
most_number = 1125899906842624

-- a number goes on with digits, to its end
unfoldable pub digits_on : ℕ → List ℕ → Option ℕ
digits_on n [] = Some n
digits_on n (b ∷ bs) =
    cond (within 48 57 b && nat_le (n * 10 + (b - 48)) most_number) (digits_on (n * 10 + (b - 48)) bs) None

-- the number that a word is, if it has one digit at least and nothing else
unfoldable pub number : List ℕ → Option ℕ
number [] = None
number (b ∷ bs) = digits_on 0 (b ∷ bs)
