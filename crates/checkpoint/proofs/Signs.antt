-- Numbers with their sign as words.
use Rattle.std.proofs.Common.{◌≡◌, ℕ, suc, ◌-◌, ◌%◌, ◌<◌, ◌≤◌, true, false, ltb, ℤ, pos, negsuc, ◌≤ℤ◌, refl, ap, ◌∙◌, arith, w64}
use lib.Signed.{mag}
use Rattle.std.proofs.lemmas.Int.{ints, to_z-of_z}
use Rattle.std.proofs.lemmas.Bool.{le-leb, le-ltb, or_left, or_right}
use Rattle.venue.specs.World.{abs}
use Rattle.checkpoint.specs.Faults.{cash_word, held_word}
use Rattle.checkpoint.specs.Words.{number_in, word_of}

-- what is stored lies within 2^51 either way, so that its word has 64 bits and says it again
pub record Modest (x : ℤ) : Type 0 where
  pub size : mag x < 2251799813685248

pub modest_word : (x : ℤ) → Modest x → word_of x < 18446744073709551616
modest_word (pos n) h = let a = h.size in omega arith
modest_word (negsuc n) h = let a = h.size in omega arith

pub number_back : (x : ℤ) → Modest x → number_in (word_of x % 18446744073709551616) ≡ x
number_back x h =
    let a = h.size in
    let b = modest_word x h in
    let e : word_of x % 18446744073709551616 ≡ word_of x = omega arith in
    ap number_in e ∙ to_z-of_z w64 x (record { sfits = omega arith })

pub cash_modest : (x : ℤ) → pos 0 ≤ℤ x → x ≤ℤ pos 1125899906842624 → Modest x
cash_modest (pos n) g h = record { size = omega (arith, ints) }
cash_modest (negsuc n) g h = record { size = omega (arith, ints) }

-- an amount's own size
abs_pos : (n : ℕ) → abs (pos n) ≡ n
unfolding abs
abs_pos n = let e : ltb n 0 ≡ false = le-ltb n 0 (omega arith) in rw e

abs_negsuc : (n : ℕ) → abs (negsuc n) ≡ suc n
unfolding abs
abs_negsuc n = refl

mag_abs : (x : ℤ) → mag x ≤ abs x
mag_abs (pos n) = let e = abs_pos n in omega arith
mag_abs (negsuc n) = let e = abs_negsuc n in omega arith

pub held_modest : (x : ℤ) → abs x ≤ 2147483648 → Modest x
held_modest x h = record { size = let a = mag_abs x in omega arith }

-- and it is in the range of its word
pub cash_fits : (x : ℤ) → pos 0 ≤ℤ x → x ≤ℤ pos 1125899906842624 → cash_word (word_of x) ≡ true
cash_fits (pos n) g h = le-leb n 1125899906842624 (omega (arith, ints))
cash_fits (negsuc n) g h = absurd (omega (arith, ints))

pub held_fits : (x : ℤ) → abs x ≤ 2147483648 → held_word (word_of x) ≡ true
held_fits (pos n) h = let e = abs_pos n in or_left _ _ (le-leb n 2147483648 (omega arith))
held_fits (negsuc n) h =
    let e = abs_negsuc n in or_right _ _ (le-leb 18446744071562067968 (18446744073709551616 - suc n) (omega arith))
