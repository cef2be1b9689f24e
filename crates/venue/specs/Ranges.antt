-- The ranges of a market's numbers, as machine numbers must hold them. Assumes nothing: these are definitions.
use Rattle.std.specs.Prelude.{ℕ, ◌<◌, ◌≤◌, length, pos, ◌≤ℤ◌}
use Rattle.std.specs.List.{AllByRecursion}
use Rattle.venue.specs.World.{Item, Order, World, abs, account, held}

-- an order of one of n accounts in one of m items
pub record OrderRange (n m : ℕ) (o : Order) : Type 0 where
  pub account : o.account < n
  pub item : o.item < m
  pub price : o.price ≤ 2000000
  pub left : o.left ≤ 1000000
  pub number : o.number < 9223372036854775808

pub record ItemRange (i : Item) : Type 0 where
  pub band_low : 1 ≤ i.band
  pub band_high : i.band ≤ i.price
  pub price : i.price ≤ 1000000

pub record Ranged (w : World) : Type 0 where
  pub items : AllByRecursion ItemRange w.items
  pub orders : AllByRecursion (OrderRange (length w.accounts) (length w.items)) w.orders
  pub cash : (a : ℕ) → a < length w.accounts → (pos 0 ≤ℤ (account w a).cash) × ((account w a).cash ≤ℤ pos 1125899906842624)
  pub held : (a k : ℕ) → a < length w.accounts → abs (held (account w a) k) ≤ 2147483648
  pub money : w.money ≤ 1125899906842624
  pub next : w.next ≤ 9223372036854775808
