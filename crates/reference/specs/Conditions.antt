-- What the program's functions rely on: how large numbers are, and what holds while a message is carried out. Assumes nothing: these are definitions.
use Rattle.std.specs.Prelude.{◌≡◌, ℕ, ◌<◌, ◌≤◌, Bool, true, List, length, ℤ, pos, ◌+ℤ◌, neg_ℤ, ◌≤ℤ◌}
use Rattle.venue.specs.Sizes.{Sized, Small}
use Rattle.venue.specs.Sound.{Sound}
use Rattle.venue.specs.Tearing.{Tearing}
use Rattle.venue.specs.Turn.{Turn}
use Rattle.venue.specs.World as world
use Rattle.reference.specs.Means.{limits_of}
use Rattle.reference.specs.declared.limits.Limits.{Limits}

-- a number no farther than n from 0; each contract says it of one sum or product, with a number of its own
abbrev pub Within : ℕ → ℤ → Type 0
Within n z = (neg_ℤ (pos n) ≤ℤ z) × (z ≤ℤ pos n)

-- every account has a holding of each item, its money is no farther than c from 0, and each holding no farther than h; prices are small.
-- This stands in contracts, with numbers that differ from one to the next
pub record Roomy (c h : ℕ) (w : world.World) : Type 0 where
  pub wide : (a : ℕ) → a < length w.accounts → length (world.account w a).holds ≡ length w.items
  pub cash : (a : ℕ) → a < length w.accounts → Within c (world.account w a).cash
  pub held : (a k : ℕ) → a < length w.accounts → k < length w.items → Within h (world.held (world.account w a) k)
  pub priced : (k : ℕ) → k < length w.items → (world.item w k).price ≤ 2000000

-- a market whose numbers fit the program's: what every message may rely on, beside how many items and accounts there are, which the
-- type of a market says. This stands in contracts, since it does not hold in the middle of a trade or of a tear-up
pub record Fit (w : world.World) : Type 0 where
  pub roomy : Roomy 1125899906842624 2147483648 w
  pub orders : length w.orders ≤ 65536

-- the money of an account that got `gain`s from an evening stays small, whatever prices the evening has
pub record Settles (w : world.World) : Type 0 where
  pub cash : w.trading ≡ true → (ps bs : List ℕ) → world.prices_fit w.items ps bs ≡ true → (a : ℕ) → a < length w.accounts →
      Within 1125899906842624 ((world.account w a).cash +ℤ world.gain 0 w.items ps (world.account w a))

-- an order that is being filled, under the program's limits, whatever kinds of messages there are
pub record Filling (z : Limits) (w : world.World) (o : world.Order) : Type 0 where
  pub kinds : ℕ → Bool
  pub turn : Turn (limits_of z kinds) w o

-- a market that is being torn up, under some limits that the program's numbers can hold. This stands in contracts, since it holds only from
-- the first tear-up to the last
pub record Morning (w : world.World) : Type 0 where
  pub limits : world.Limits
  pub small : Small limits
  pub tearing : Tearing limits w

-- a market that can hear a message: all that is kept, and sizes that a disc may have
pub record Standing (z : world.Limits) (w : world.World) : Type 0 where
  pub sound : Sound z w
  pub sized : Sized z w
