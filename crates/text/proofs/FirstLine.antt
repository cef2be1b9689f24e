-- The first line of a text, and the lines behind it.
use Rattle.std.proofs.Common.{◌≡◌, ℕ, ◌+◌, ◌<◌, ◌≤◌, Bool, true, false, cond, not, eqb, List, [], ◌∷◌, length, take, drop, take_while, Some, None, refl, arith}
use Rattle.std.specs.List.{position, prefix_len}
use Rattle.std.proofs.Math.Numerals.{one-add}
use Rattle.std.proofs.lemmas.Bool.Decides.{nat_tests}
use Rattle.text.specs.Words.{lines, other_than, with_byte}

-- bytes that begin with a line's first byte
line_on :
    (b : ℕ) (bs : List ℕ) (t : Bool) →
    (0 < length bs → lines bs ≡ take_while (other_than 10) bs ∷ lines (drop 1 (drop (prefix_len (other_than 10) bs) bs))) →
    cond t ([] ∷ lines bs) (with_byte b (lines bs)) ≡
    take (cond (not t) (1 + prefix_len (other_than 10) bs) 0) (b ∷ bs) ∷
    lines (drop 1 (drop (cond (not t) (1 + prefix_len (other_than 10) bs) 0) (b ∷ bs)))
unfolding lines with_byte
line_on b bs true ih = refl
line_on b [] false ih = refl
line_on b (x ∷ xs) false ih = rw (one-add (prefix_len (other_than 10) (x ∷ xs)), ih (omega arith))

pub lines_next :
    (bs : List ℕ) → 0 < length bs → lines bs ≡ take_while (other_than 10) bs ∷ lines (drop 1 (drop (prefix_len (other_than 10) bs) bs))
unfolding lines
lines_next [] h = absurd (omega arith)
lines_next (b ∷ bs) h = line_on b bs (eqb b 10) (lines_next bs)

-- by where the first line feed stands, if there is one
pub line_found : (bs : List ℕ) (e : ℕ) → position (λ b. eqb b 10) bs ≡ Some e → (prefix_len (other_than 10) bs ≡ e) × (e < length bs)
line_found bs e h = grind (arith, nat_tests)

pub line_alone : (bs : List ℕ) → position (λ b. eqb b 10) bs ≡ None → length bs ≤ prefix_len (other_than 10) bs
line_alone bs h = grind (arith, nat_tests)
