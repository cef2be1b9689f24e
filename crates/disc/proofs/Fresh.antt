-- A new disc is taken, and holds the numbers that it was made from.
use Rattle.std.proofs.Common.{◌≡◌, ℕ, ◌+◌, ◌-◌, ◌*◌, ◌%◌, ◌<◌, ◌≤◌, true, false, not, ◌||◌, eqb, ltb, List, [], ◌∷◌, ◌++◌, length, replicate, None, refl, ap, ◌∙◌, append_assoc, arith, length-append}
use lib.ListN.{length-replicate}
use native.Mathlib.Nat.{mul-mod_right}
use Rattle.std.proofs.lemmas.Bool.{and_parts}
use Rattle.std.proofs.lemmas.Bool.Decides.{nat_tests}
use Rattle.venue.specs.World as world
use Rattle.wire.specs.Number.{two_of, four_of, eight_of}
use Rattle.disc.specs.Block0.{accounts_on, header_refusal, items_from, items_on, money_on, numbers_on, orders_on}
use Rattle.disc.specs.Layout.{disc_blocks, first_blocks, least_journal, needed_bytes}
use Rattle.disc.specs.New.{ComesBack, header_bytes, items_bytes, new_disc, padded, start_bytes}
use Rattle.disc.specs.Numbers.{Numbers, counts_fit, in_range, items_fit}
use Rattle.disc.proofs.Back.{Started, started, items_at}
use Rattle.disc.proofs.Fits.{no_bad_item, no_bad_number}
use Rattle.disc.proofs.Refusals.{not_refused}

length_padded : (n : ℕ) (bs : List ℕ) → length bs ≤ n → length (padded n bs) ≡ n
unfolding padded
length_padded n bs h = rw (length-append, length-replicate) (omega arith)

length_start : (n a o m : ℕ) → length (start_bytes n a o m) ≡ 24
unfolding start_bytes eight_of four_of two_of
length_start n a o m = refl

length_items_bytes : (is : List world.Item) → length (items_bytes is) ≡ 8 * length is
unfolding items_bytes four_of two_of
length_items_bytes [] = refl
length_items_bytes (i ∷ is) = omega (arith, length_items_bytes is)

pub length_header : (n : Numbers) → length (header_bytes n) ≡ 24 + 8 * length n.items
unfolding header_bytes
length_header n = rw (length-append, length_start, length_items_bytes)

fits_first : (n : Numbers) → length (header_bytes n) ≤ 512 * first_blocks (length n.items)
fits_first n = omega (arith, length_header n)

length_first : (n : Numbers) → length (padded (512 * first_blocks (length n.items)) (header_bytes n)) ≡ 512 * first_blocks (length n.items)
length_first n = length_padded (512 * first_blocks (length n.items)) (header_bytes n) (fits_first n)

length_versioned :
    (n : Numbers) → length (padded (512 * first_blocks (length n.items)) (header_bytes n) ++ 1 ∷ []) ≡ 512 * first_blocks (length n.items) + 1
length_versioned n = length-append (padded (512 * first_blocks (length n.items)) (header_bytes n)) (1 ∷ []) ∙ ap (λ l. l + 1) (length_first n)

room_for : (i a o j : ℕ) → 512 * first_blocks i + 1 ≤ 512 * disc_blocks i a o j
room_for i a o j = omega arith

length_new : (n : Numbers) (j : ℕ) → length (new_disc n j) ≡ 512 * disc_blocks (length n.items) n.accounts n.orders j
unfolding new_disc
length_new n j =
    length_padded (512 * disc_blocks (length n.items) n.accounts n.orders j)
    (padded (512 * first_blocks (length n.items)) (header_bytes n) ++ 1 ∷ [])
    (omega (arith, length_versioned n, room_for (length n.items) n.accounts n.orders j))

-- everything behind the first 24 bytes
rest_of : Numbers → ℕ → List ℕ
rest_of n j =
    replicate (512 * first_blocks (length n.items) - length (header_bytes n)) 0 ++
    (1 ∷ replicate (512 * disc_blocks (length n.items) n.accounts n.orders j - length (padded (512 * first_blocks (length n.items)) (header_bytes n) ++ 1 ∷ [])) 0)

new_disc_parts :
    (n : Numbers) (j : ℕ) →
    new_disc n j ≡ start_bytes (length n.items) n.accounts n.orders n.money ++ (items_bytes n.items ++ rest_of n j)
unfolding new_disc padded header_bytes rest_of
new_disc_parts n j = simp append_assoc

length_good :
    (l n a o n' a' o' j : ℕ) → n ≡ n' → a ≡ a' → o ≡ o' → l ≡ 512 * disc_blocks n' a' o' j → least_journal n' ≤ j →
    (not (eqb (l % 512) 0) || ltb l (needed_bytes n a o)) ≡ false
length_good l n a o n' a' o' j en ea eo el h =
    let whole : l % 512 ≡ 0 = ap (λ k. k % 512) el ∙ mul-mod_right 512 (disc_blocks n' a' o' j) in
    rw (en, ea, eo) (grind (arith, nat_tests))

whole_if : (l n n' a o j : ℕ) → n ≡ n' → l ≡ 512 * disc_blocks n' a o j → (24 + 8 * n ≤ l) × (512 ≤ l)
whole_if l n n' a o j e h = (omega arith, omega arith)

-- bytes that hold the numbers n, all in range, and are long enough, are taken
good :
    (bs t : List ℕ) (n : Numbers) (j : ℕ) → Started (length n.items) n.accounts n.orders n.money bs (items_bytes n.items ++ t) →
    length bs ≡ 512 * disc_blocks (length n.items) n.accounts n.orders j → in_range n ≡ true → least_journal (length n.items) ≤ j →
    (header_refusal bs ≡ None) × (numbers_on bs ≡ n)
unfolding numbers_on
good bs t n j s l r h =
    let fits = and_parts (counts_fit (length n.items) n.accounts n.orders n.money) (items_fit n.items) r in
    let counts : counts_fit (items_on bs) (accounts_on bs) (orders_on bs) (money_on bs) ≡ true = rw (s.items, s.accounts, s.orders, s.money) fits.0 in
    let items : items_from bs 24 (items_on bs) ≡ n.items = ap (items_from bs 24) s.items ∙ items_at bs t n.items s.rest fits.1 in
    let whole = whole_if (length bs) (items_on bs) (length n.items) n.accounts n.orders j s.items l in
    let none = no_bad_item bs 24 (items_on bs) whole.0 (ap items_fit items ∙ fits.1) in
    let sized = length_good (length bs) (items_on bs) (accounts_on bs) (orders_on bs) _ _ _ j s.items s.accounts s.orders l h in (
      not_refused bs whole.1 s.mark (no_bad_number bs counts none) sized,
      rw (items, s.accounts, s.orders, s.money),
    )

small : (n a o m : ℕ) → counts_fit n a o m ≡ true → ((n < 4294967296) × (a < 4294967296)) × ((o < 4294967296) × (m < 18446744073709551616))
small n a o m e = ((grind (arith, nat_tests), grind (arith, nat_tests)), (grind (arith, nat_tests), grind (arith, nat_tests)))

pub comes_back : ComesBack
comes_back n j r h =
    let b = small (length n.items) n.accounts n.orders n.money (and_parts (counts_fit (length n.items) n.accounts n.orders n.money) (items_fit n.items) r).0 in
    let s = started (length n.items) n.accounts n.orders n.money (items_bytes n.items ++ rest_of n j) b.0.0 b.0.1 b.1.0 b.1.1 in
    good (new_disc n j) (rest_of n j) n j (rw new_disc_parts s) (length_new n j) r h
