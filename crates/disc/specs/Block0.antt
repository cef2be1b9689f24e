-- What the first blocks of a disc say, and when a disc is refused for it. Assumes nothing: these are definitions.
use Rattle.std.specs.Prelude.{ℕ, zero, suc, ◌+◌, ◌%◌, Bool, cond, not, ◌&&◌, ◌||◌, List, [], ◌∷◌, length, Some, None, Option, ◌==◌, nat_lt, slice_index}
use Rattle.venue.specs.World as world
use Rattle.wire.specs.Number.{four, eight}
use Rattle.wire.specs.declared.refusal.Refusal.{Refusal}
use Rattle.wire.specs.declared.refusal.Refusal.TheVariants.{Length, NoMark, Range}
use Rattle.disc.specs.Layout.{needed_bytes}
use Rattle.disc.specs.Numbers.{Numbers, price_fits, band_fits, count_fits, accounts_fit, orders_fit, money_fits}

-- a disc begins with the letters MRKT
abbrev pub has_mark : List ℕ → Bool
has_mark bs = slice_index bs 0 == 77 && (slice_index bs 1 == 82 && (slice_index bs 2 == 75 && slice_index bs 3 == 84))

-- the numbers of block 0: items, accounts, orders that may stand, and the limit on all money
abbrev pub items_on : List ℕ → ℕ
items_on bs = four bs 4

abbrev pub accounts_on : List ℕ → ℕ
accounts_on bs = four bs 8

abbrev pub orders_on : List ℕ → ℕ
orders_on bs = four bs 12

abbrev pub money_on : List ℕ → ℕ
money_on bs = eight bs 16

-- where the first of n items from place i on has a price or a band out of range; what does not lie whole in the disc is not looked at
unfoldable pub bad_item : List ℕ → ℕ → ℕ → Option ℕ
bad_item bs i zero = None
bad_item bs i (suc n) =
    cond (nat_lt (length bs) (i + 4)) None
    (cond (not (price_fits (four bs i))) (Some i)
    (cond (nat_lt (length bs) (i + 8)) None
    (cond (not (band_fits (four bs i) (four bs (i + 4)))) (Some (i + 4)) (bad_item bs (i + 8) n))))

-- where the first number that is out of range begins
abbrev pub bad_number : List ℕ → Option ℕ
bad_number bs =
    cond (not (count_fits (items_on bs))) (Some 4)
    (cond (not (accounts_fit (accounts_on bs))) (Some 8)
    (cond (not (orders_fit (orders_on bs))) (Some 12)
    (cond (not (money_fits (money_on bs))) (Some 16) (bad_item bs 24 (items_on bs)))))

-- whether the disc's length is no multiple of a block's, or below what its numbers need
abbrev pub bad_length : List ℕ → Bool
bad_length bs =
    not (length bs % 512 == 0) || nat_lt (length bs) (needed_bytes (items_on bs) (accounts_on bs) (orders_on bs))

abbrev pub refused_for_range : List ℕ → Option ℕ → Option Refusal
refused_for_range bs (Some i) = Some (Range i)
refused_for_range bs None = cond (bad_length bs) (Some (Length (length bs))) None

-- why a disc is refused for its first blocks or its length, if it is
unfoldable pub header_refusal : List ℕ → Option Refusal
header_refusal bs =
    cond (nat_lt (length bs) 512) (Some (Length (length bs)))
    (cond (not (has_mark bs)) (Some NoMark) (refused_for_range bs (bad_number bs)))

-- n items from place i on
unfoldable pub items_from : List ℕ → ℕ → ℕ → List world.Item
items_from bs i zero = []
items_from bs i (suc n) = record { price = four bs i; band = four bs (i + 4) } ∷ items_from bs (i + 8) n

-- the numbers that a disc holds
unfoldable pub numbers_on : List ℕ → Numbers
numbers_on bs =
    record { items = items_from bs 24 (items_on bs); accounts = accounts_on bs; orders = orders_on bs; money = money_on bs }
