-- The bytes of a new disc, and what they promise. Assumes nothing: these are definitions.
use Rattle.std.specs.Prelude.{◌≡◌, ℕ, ◌-◌, ◌*◌, ◌<◌, ◌≤◌, true, List, [], ◌∷◌, ◌++◌, length, replicate, None, codes}
use Rattle.venue.specs.World as world
use Rattle.wire.specs.Number.{four_of, eight_of}
use Rattle.disc.specs.Block0.{header_refusal, numbers_on}
use Rattle.disc.specs.Layout.{first_blocks, disc_blocks, least_journal}
use Rattle.disc.specs.Numbers.{Numbers, in_range}
use Rattle.disc.specs.declared.making.NotMade.{NotMade}
use Rattle.disc.specs.declared.making.NotMade.TheVariants.{ShortJournal, LongJournal, Memory}

-- each item's price and band
unfoldable pub items_bytes : List world.Item → List ℕ
items_bytes [] = []
items_bytes (i ∷ is) = four_of i.price ++ (four_of i.band ++ items_bytes is)

-- the letters MRKT, and four numbers
unfoldable pub start_bytes : ℕ → ℕ → ℕ → ℕ → List ℕ
start_bytes n a o m = codes "MRKT" ++ (four_of n ++ (four_of a ++ (four_of o ++ eight_of m)))

unfoldable pub header_bytes : Numbers → List ℕ
header_bytes n = start_bytes (length n.items) n.accounts n.orders n.money ++ items_bytes n.items

-- bytes with zeros behind them, so many in all
unfoldable pub padded : ℕ → List ℕ → List ℕ
padded n bs = bs ++ replicate (n - length bs) 0

-- a new disc with so many blocks in each journal: the first market, padded to whole blocks; the layout's version, which is 1; and zeros
unfoldable pub new_disc : Numbers → ℕ → List ℕ
new_disc n j =
    padded (512 * disc_blocks (length n.items) n.accounts n.orders j)
    (padded (512 * first_blocks (length n.items)) (header_bytes n) ++ 1 ∷ [])

-- the most blocks in a journal
abbrev pub most_journal : ℕ
most_journal = 1048576

-- why no disc is made: the journal is too short or too long, or there is no memory for it
abbrev pub IsNotMade : ℕ → ℕ → NotMade → Type 0
IsNotMade items j ShortJournal = j < least_journal items
IsNotMade items j LongJournal = most_journal < j
IsNotMade items j Memory = (least_journal items ≤ j) × (j ≤ most_journal)

-- a new disc is taken, and holds the numbers that it was made from
abbrev pub ComesBack : Type 0
ComesBack =
    (n : Numbers) (j : ℕ) → in_range n ≡ true → least_journal (length n.items) ≤ j →
    (header_refusal (new_disc n j) ≡ None) × (numbers_on (new_disc n j) ≡ n)
