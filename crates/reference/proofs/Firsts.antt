-- The first market, as it is made.
use Rattle.std.proofs.Common.{◌≡◌, ℕ, zero, suc, true, List, [], ◌∷◌, length, refl, le_of_suc-le-suc, arith}
use lib.ListN.{length-replicate}
use Rattle.disc.specs.Numbers.{items_fit}
use Rattle.std.proofs.lemmas.Bool.Decides.{nat_tests}
use Rattle.venue.specs.Promise.{SoundItems}
use Rattle.venue.specs.World.{Item, first}

-- items in range, one by one
pub items_sound : (is : List Item) → items_fit is ≡ true → SoundItems is
unfolding SoundItems items_fit
items_sound [] e k h = absurd (omega arith)
items_sound (i ∷ is) e zero h = (grind (arith, nat_tests), grind (arith, nat_tests), grind (arith, nat_tests))
items_sound (i ∷ is) e (suc k) h = items_sound is (grind (arith, nat_tests)) k (le_of_suc-le-suc h)

-- how many accounts and items the first market has
pub first_many : (is : List Item) (n : ℕ) → (length (first is n).accounts ≡ n) × (length (first is n).items ≡ length is)
unfolding first
first_many is n = (length-replicate n _, refl)
