-- Numbers, digit by digit.
use Rattle.std.proofs.Common.{◌≡◌, ℕ, ◌+◌, ◌-◌, ◌*◌, ◌<◌, cond, ◌&&◌, leb, List, length, get_or, drop, None, add-one, drop-cons}
use Rattle.disc.specs.Numbers.{within}
use Rattle.text.specs.Words.{digits_on, most_number}

pub digits_next :
    (n : ℕ) (bs : List ℕ) (i : ℕ) → i < length bs → digits_on n (drop i bs) ≡
    cond (within 48 57 (get_or bs i 0) && leb (n * 10 + (get_or bs i 0 - 48)) most_number)
    (digits_on (n * 10 + (get_or bs i 0 - 48)) (drop (i + 1) bs)) None
unfolding digits_on
digits_next n bs i h = rw (add-one, drop-cons bs i 0)
