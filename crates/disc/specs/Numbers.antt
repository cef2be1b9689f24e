-- The numbers that a market begins with, and the ranges that they must lie in. Assumes nothing: these are definitions.
use Rattle.std.specs.Prelude.{ℕ, Bool, true, ◌&&◌, List, [], ◌∷◌, map, length, nat_le}
use Rattle.venue.specs.World as world
use Rattle.wire.specs.Means.{item_of}
use Rattle.wire.specs.declared.item.Item.{Item}

-- the items with their first prices and bands, how many accounts there are, how many orders may stand,
-- and how much money may be in all accounts together
pub record Numbers : Type 0 where
  pub items : List world.Item
  pub accounts : ℕ
  pub orders : ℕ
  pub money : ℕ

-- x is from low to high, both included
abbrev pub within : ℕ → ℕ → ℕ → Bool
within low high x = nat_le low x && nat_le x high

-- prices are from 1 to 1,000,000, bands from 1 to their price
abbrev pub price_fits : ℕ → Bool
price_fits p = within 1 1000000 p

abbrev pub band_fits : ℕ → ℕ → Bool
band_fits p b = within 1 p b

abbrev pub item_fits : world.Item → Bool
item_fits i = price_fits i.price && band_fits i.price i.band

unfoldable pub items_fit : List world.Item → Bool
items_fit [] = true
items_fit (i ∷ is) = item_fits i && items_fit is

-- there are 1 to 256 items, 1 to 4,096 accounts, and room for 1 to 65,536 orders; money is limited to at most 2^50
abbrev pub count_fits : ℕ → Bool
count_fits n = within 1 256 n

abbrev pub accounts_fit : ℕ → Bool
accounts_fit n = within 1 4096 n

abbrev pub orders_fit : ℕ → Bool
orders_fit n = within 1 65536 n

abbrev pub money_fits : ℕ → Bool
money_fits n = nat_le n 1125899906842624

abbrev pub counts_fit : ℕ → ℕ → ℕ → ℕ → Bool
counts_fit n a o m = count_fits n && (accounts_fit a && (orders_fit o && money_fits m))

-- whether all numbers are in range
abbrev pub in_range : Numbers → Bool
in_range n = counts_fit (length n.items) n.accounts n.orders n.money && items_fit n.items

-- the numbers that a row of items and three more give
abbrev pub numbers_of : List Item → ℕ → ℕ → ℕ → Numbers
numbers_of is a o m = record { items = map item_of is; accounts = a; orders = o; money = m }

-- the limits of a market that begins with these numbers and has these kinds of messages
abbrev pub limits_of : Numbers → (ℕ → Bool) → world.Limits
limits_of n kinds = record { orders = n.orders; money = n.money; holding = 2147483648; built = kinds }

-- the first morning of that market
abbrev pub first_of : Numbers → world.World
first_of n = world.first n.items n.accounts
