-- What the bytes of a checkpoint's body say, word by word. Assumes nothing: these are definitions.
use Rattle.std.specs.Prelude.{ℕ, ◌+◌, ◌*◌, List, map, ◌==◌}
use Rattle.std.specs.List.{range_with_len}
use Rattle.venue.specs.World.{Account, Item, Order, World}
use Rattle.wire.specs.Messages.{side_in}
use Rattle.checkpoint.specs.Words.{number_in, word}

-- where k items, then accounts, and then orders begin, in words, and where account a does
abbrev pub items_at : ℕ
items_at = 8

abbrev pub accounts_at : ℕ → ℕ
accounts_at k = 8 + 2 * k

abbrev pub account_at : ℕ → ℕ → ℕ
account_at k a = accounts_at k + a * (1 + k)

abbrev pub orders_at : ℕ → ℕ → ℕ
orders_at k n = accounts_at k + n * (1 + k)

-- how many orders stand, and how many messages were heard
abbrev pub orders_in : List ℕ → ℕ
orders_in bs = word bs 5

abbrev pub heard_in : List ℕ → ℕ
heard_in bs = word bs 1

-- item i
unfoldable pub item_in : List ℕ → ℕ → Item
item_in bs i = record { price = word bs (8 + 2 * i); band = word bs (9 + 2 * i) }

-- account a's money, its holding of item i, and all of it, where there are k items
abbrev pub cash_in : ℕ → List ℕ → ℕ → ℕ
cash_in k bs a = word bs (account_at k a)

abbrev pub held_in : ℕ → List ℕ → ℕ → ℕ → ℕ
held_in k bs a i = word bs (account_at k a + 1 + i)

unfoldable pub account_in : ℕ → List ℕ → ℕ → Account
account_in k bs a =
    record { cash = number_in (cash_in k bs a); holds = map (λ (i : ℕ). number_in (held_in k bs a i)) (range_with_len 0 k) }

-- the order at place j, which begins at word p
unfoldable pub order_from : List ℕ → ℕ → Order
order_from bs p =
    record {
      number = word bs p;
      account = word bs (p + 1);
      item = word bs (p + 2);
      side = side_in (word bs (p + 3));
      price = word bs (p + 4);
      left = word bs (p + 5);
    }

unfoldable pub order_in : ℕ → ℕ → List ℕ → ℕ → Order
order_in k n bs j = order_from bs (orders_at k n + 6 * j)

-- the market of a body, where there are k items and n accounts
unfoldable pub market_in : ℕ → ℕ → List ℕ → World
market_in k n bs =
    record {
      items = map (item_in bs) (range_with_len 0 k);
      accounts = map (account_in k bs) (range_with_len 0 n);
      orders = map (order_in k n bs) (range_with_len 0 (orders_in bs));
      next = word bs 2;
      money = word bs 3;
      trading = (word bs 4 == 1);
    }
