-- When a checkpoint's body is not as it should be, and the first block that shows it. A word's range is a rule of its own block; how words go together
-- (sums, cover, orders that could trade) is a rule of the whole body, which is looked at last. Assumes nothing: these are definitions.
use Rattle.std.specs.Prelude.{ℕ, zero, suc, ◌+◌, ◌-◌, ◌*◌, ◌/◌, ◌%◌, Bool, cond, ◌&&◌, ◌||◌, List, Some, None, Option, ◌==◌, nat_le, nat_lt}
use Rattle.venue.specs.Sound.{sound_test}
use Rattle.venue.specs.World.{Limits, pick}
use Rattle.disc.specs.Numbers.{within}
use Rattle.checkpoint.specs.Reading.{accounts_at, market_in, orders_at, orders_in}
use Rattle.checkpoint.specs.Words.{word}

-- as many orders as may stand; none while no order can be placed
abbrev pub most_orders : Limits → ℕ
most_orders z = pick (z.built 3) z.orders 0

-- the words in front: the journal begins at its first block, trading is 0 or 1, not too many orders stand, and spare words are 0
unfoldable pub head_fits : Limits → List ℕ → Bool
head_fits z bs =
    (word bs 0 == 0) && nat_le (word bs 4) 1 && nat_le (orders_in bs) (most_orders z) && word bs 6 == 0 && word bs 7 == 0

-- prices and bands are from 1 to 1,000,000, money from 0 to 2^50, holdings from −2^31 to 2^31
abbrev pub price_word : ℕ → Bool
price_word x = within 1 1000000 x

abbrev pub cash_word : ℕ → Bool
cash_word x = nat_le x 1125899906842624

abbrev pub held_word : ℕ → Bool
held_word x = nat_le x 2147483648 || nat_le 18446744071562067968 x

-- word j of an order: its number, account, item, side, price, and what is left of it
abbrev pub order_word : ℕ → ℕ → ℕ → ℕ → Bool
order_word k n j x =
    pick (j == 0) (within 1 9223372036854775807 x)
    (pick (j == 1) (nat_lt x n)
    (pick (j == 2) (nat_lt x k)
    (pick (j == 3) (nat_le x 1)
    (pick (j == 4) (nat_le x 2000000) (within 1 1000000 x)))))

-- the range of word i behind the head
unfoldable pub word_fits : ℕ → ℕ → ℕ → ℕ → Bool
word_fits k n i x =
    pick (nat_lt i (accounts_at k)) (price_word x)
    (pick (nat_lt i (orders_at k n)) (pick ((i - accounts_at k) % (1 + k) == 0) (cash_word x) (held_word x))
    (order_word k n ((i - orders_at k n) % 6) x))

-- the first of c words, from word i on, that is out of its range
unfoldable pub bad_word : ℕ → ℕ → List ℕ → ℕ → ℕ → Option ℕ
bad_word k n bs i zero = None
bad_word k n bs i (suc c) = cond (word_fits k n i (word bs i)) (bad_word k n bs (suc i) c) (Some i)

-- how many words lie behind the head
abbrev pub words_behind : ℕ → ℕ → ℕ → ℕ
words_behind k n o = 2 * k + n * (1 + k) + 6 * o

-- the block of a word
unfoldable pub fault_at : Option ℕ → Bool → Option ℕ
fault_at (Some i) sound = Some (i / 64)
fault_at None sound = cond sound None (Some 0)

-- the first block of a body that is not as it should be, where there are k items and n accounts
unfoldable pub body_fault : Limits → ℕ → ℕ → List ℕ → Option ℕ
body_fault z k n bs =
    cond (head_fits z bs) (fault_at (bad_word k n bs 8 (words_behind k n (orders_in bs))) (sound_test z (market_in k n bs))) (Some 0)
