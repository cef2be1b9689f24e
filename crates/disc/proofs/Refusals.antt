-- A disc's refusal, test by test, and what is known of a disc that is not refused.
use Rattle.std.proofs.Common.{◌≡◌, ℕ, ◌<◌, ◌≤◌, Bool, true, false, cond, not, ltb, List, length, Some, None, Option, refl, ap, ◌∙◌, arith}
use Rattle.std.proofs.lemmas.Bool.{lt-ltb, le-ltb}
use Rattle.std.proofs.lemmas.Bool.Decides.{nat_tests}
use Rattle.wire.specs.declared.refusal.Refusal.TheVariants.{Length, NoMark, Range}
use Rattle.disc.specs.Block0.{header_refusal, refused_for_range, has_mark, bad_number, bad_length}

pub short : (bs : List ℕ) → length bs < 512 → header_refusal bs ≡ Some (Length (length bs))
unfolding header_refusal
short bs h = rw (lt-ltb (length bs) 512 h)

pub no_mark : (bs : List ℕ) → 512 ≤ length bs → has_mark bs ≡ false → header_refusal bs ≡ Some NoMark
unfolding header_refusal
no_mark bs h m = rw (le-ltb (length bs) 512 h, m)

pub marked : (bs : List ℕ) → 512 ≤ length bs → has_mark bs ≡ true → header_refusal bs ≡ refused_for_range bs (bad_number bs)
unfolding header_refusal
marked bs h m = rw (le-ltb (length bs) 512 h, m)

pub out_of_range :
    (bs : List ℕ) (i : ℕ) → 512 ≤ length bs → has_mark bs ≡ true → bad_number bs ≡ Some i → header_refusal bs ≡ Some (Range i)
out_of_range bs i h m e = marked bs h m ∙ ap (refused_for_range bs) e

pub ill_sized :
    (bs : List ℕ) → 512 ≤ length bs → has_mark bs ≡ true → bad_number bs ≡ None → bad_length bs ≡ true → header_refusal bs ≡ Some (Length (length bs))
ill_sized bs h m e b = marked bs h m ∙ ap (refused_for_range bs) e ∙ rw b

pub not_refused :
    (bs : List ℕ) → 512 ≤ length bs → has_mark bs ≡ true → bad_number bs ≡ None → bad_length bs ≡ false → header_refusal bs ≡ None
not_refused bs h m e b = marked bs h m ∙ ap (refused_for_range bs) e ∙ rw b

-- what is known of a disc that is not refused
pub record Taken (bs : List ℕ) : Type 0 where
  pub long : 512 ≤ length bs
  pub numbers : bad_number bs ≡ None
  pub sized : bad_length bs ≡ false

not_long : (n : ℕ) (b : Bool) → cond b (Some (Length n)) None ≡ None → b ≡ false
not_long n true e = absurd (let z : ◌≡◌ {A = ℕ} 0 1 = cc in omega arith)
not_long n false e = refl

from_rest : (bs : List ℕ) (o : Option ℕ) → refused_for_range bs o ≡ None → (o ≡ None) × (bad_length bs ≡ false)
from_rest bs (Some i) e = absurd (let z : ◌≡◌ {A = ℕ} 0 1 = cc in omega arith)
from_rest bs None e = (refl, not_long (length bs) (bad_length bs) e)

from_tests :
    (bs : List ℕ) (s m : Bool) (o : Option ℕ) →
    cond s (Some (Length (length bs))) (cond (not m) (Some NoMark) (refused_for_range bs o)) ≡ None →
    (s ≡ false) × ((o ≡ None) × (bad_length bs ≡ false))
from_tests bs true m o e = absurd (let z : ◌≡◌ {A = ℕ} 0 1 = cc in omega arith)
from_tests bs false true o e = (refl, from_rest bs o e)
from_tests bs false false o e = absurd (let z : ◌≡◌ {A = ℕ} 0 1 = cc in omega arith)

pub taken : (bs : List ℕ) → header_refusal bs ≡ None → Taken bs
unfolding header_refusal
taken bs e =
    let f = from_tests bs (ltb (length bs) 512) (has_mark bs) (bad_number bs) e in
    record { long = grind (arith, nat_tests, f.0); numbers = f.1.0; sized = f.1.1 }
