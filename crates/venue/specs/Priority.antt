-- Price and time priority, in plain words. Assumes nothing: these are statements.
use Rattle.std.specs.Prelude.{◌≡◌, ℕ, ◌<◌, ◌≤◌, true, ◌↔◌, List, length, slice_index_or}
use Rattle.venue.specs.Sound.{Sound}
use Rattle.venue.specs.World.{Limits, Order, Side, World, best, buy, meets, no_order, sell}

-- o can trade with r: the same item, one buys and the other sells, and the buyer's price is no lower than the seller's
pub data CanTrade (o r : Order) : Type 0 where
  buys : o.side ≡ buy → r.side ≡ sell → r.item ≡ o.item → r.price ≤ o.price → CanTrade o r
  sells : o.side ≡ sell → r.side ≡ buy → r.item ≡ o.item → o.price ≤ r.price → CanTrade o r

-- `meets` says exactly this
unfoldable pub MeetsCanTrade : Type 0
MeetsCanTrade = (o r : Order) → (meets o r ≡ true) ↔ CanTrade o r

-- a price p is as good for o as the price q: no higher if o buys, no lower if it sells
abbrev pub AsGood : Side → ℕ → ℕ → Type 0
AsGood buy p q = p ≤ q
AsGood sell p q = q ≤ p

-- the order in place b of os is the one that o trades with first: it can trade with o, no order that can has a better price for o,
-- and those of the same price stand behind it
pub record FirstFor (o : Order) (os : List Order) (b : ℕ) : Type 0 where
  pub there : b < length os
  pub can : CanTrade o (slice_index_or os b no_order)
  pub price : (j : ℕ) → j < length os → CanTrade o (slice_index_or os j no_order) → AsGood o.side (slice_index_or os b no_order).price (slice_index_or os j no_order).price
  pub time : (j : ℕ) → j < length os → CanTrade o (slice_index_or os j no_order) → (slice_index_or os j no_order).price ≡ (slice_index_or os b no_order).price → b ≤ j

-- `best` names the order that o trades with first, and the number of orders or more exactly if there is none that can trade with o
unfoldable pub BestIsFirst : Type 0
BestIsFirst =
    (o : Order) (os : List Order) →
    (best o os < length os → FirstFor o os (best o os))
    × ((length os ≤ best o os) ↔ ((j : ℕ) → j < length os → CanTrade o (slice_index_or os j no_order) → ⊥))

-- in a sound market, of those with the best price it is the one with the lowest number
unfoldable pub BestIsOldest : Type 0
BestIsOldest =
    (z : Limits) (w : World) (o : Order) (j : ℕ) → Sound z w → best o w.orders < length w.orders → j < length w.orders →
    CanTrade o (slice_index_or w.orders j no_order) → (slice_index_or w.orders j no_order).price ≡ (slice_index_or w.orders (best o w.orders) no_order).price →
    (slice_index_or w.orders (best o w.orders) no_order).number ≤ (slice_index_or w.orders j no_order).number
