-- Where everything lies on a disc, in blocks of 512 bytes. Assumes nothing: these are definitions.
use Rattle.std.specs.Prelude.{ℕ, ◌+◌, ◌*◌, ◌/◌}

-- how many blocks so many bytes fill, and so many words of 8 bytes
abbrev pub blocks_of_bytes : ℕ → ℕ
blocks_of_bytes n = (n + 511) / 512

abbrev pub blocks_of_words : ℕ → ℕ
blocks_of_words n = (n + 63) / 64

-- the blocks of the first market: 24 bytes, and 8 for each item
abbrev pub first_blocks : ℕ → ℕ
first_blocks items = blocks_of_bytes (24 + 8 * items)

-- a checkpoint's body: a head of 8 words, each item's price and band, each account's money and holdings, and room for the orders, 6 words each
abbrev pub body_words : ℕ → ℕ → ℕ → ℕ
body_words items accounts orders = 8 + 2 * items + accounts * (1 + items) + 6 * orders

abbrev pub body_blocks : ℕ → ℕ → ℕ → ℕ
body_blocks items accounts orders = blocks_of_words (body_words items accounts orders)

-- the content of the longest record: a byte, and the bytes of an end of day
abbrev pub longest_content : ℕ → ℕ
longest_content items = blocks_of_bytes (2 + 8 * items)

-- a journal holds at least 16 of the longest records with their commit blocks, and the place of the commit block that follows
abbrev pub least_journal : ℕ → ℕ
least_journal items = 16 * (1 + longest_content items) + 1

-- a disc's blocks, where each journal has so many: the first market, the layout's own block,
-- and two areas of a commit block, a checkpoint's body and a journal
abbrev pub disc_blocks : ℕ → ℕ → ℕ → ℕ → ℕ
disc_blocks items accounts orders journal = first_blocks items + 1 + 2 * (1 + body_blocks items accounts orders + journal)

-- the least length of a disc
abbrev pub needed_bytes : ℕ → ℕ → ℕ → ℕ
needed_bytes items accounts orders = 512 * disc_blocks items accounts orders (least_journal items)
