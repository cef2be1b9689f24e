-- What an account can lose by the day's end, worked out from its holdings and orders. Assumes nothing: these are definitions and statements.
use Rattle.std.specs.Prelude.{◌≡◌, ℕ, ◌<◌, ◌≤◌, ◌&&◌, List, [], ◌∷◌, length, ℤ, pos, ◌+ℤ◌, ◌-ℤ◌, ◌*ℤ◌, ◌≤ℤ◌, ◌==◌}
use Rattle.venue.specs.Priority.{AsGood}
use Rattle.venue.specs.Settlement.{InBand, total}
use Rattle.venue.specs.Sound.{Sound}
use Rattle.venue.specs.World.{Limits, Order, Side, World, account, buy, held, item, need, pick, sell}

-- how a day may go on: how much of each order is carried out, and at which price; and each item's price at the day's end
pub record Course : Type 0 where
  pub much : Order → ℕ
  pub at : Order → ℕ
  pub ends : ℕ → ℕ

-- what is lost by x bought at t, or sold at t, when the day ends at p
unfoldable pub lost : Side → ℕ → ℕ → ℤ → ℤ
lost buy x t p = pos x *ℤ (pos t -ℤ p)
lost sell x t p = pos x *ℤ (p -ℤ pos t)

-- by account a's orders in item k
unfoldable pub lost_by : ℕ → ℕ → Course → ℤ → List Order → ℤ
lost_by a k y p [] = pos 0
lost_by a k y p (o ∷ os) =
    pick (o.account == a && o.item == k) (lost o.side (y.much o) (y.at o) p) (pos 0) +ℤ lost_by a k y p os

-- by what account a holds of item k, and by its orders in it
unfoldable pub lost_in : World → ℕ → Course → ℕ → ℤ
lost_in w a y k =
    (held (account w a) k *ℤ (pos (item w k).price -ℤ pos (y.ends k))) +ℤ lost_by a k y (pos (y.ends k)) w.orders

-- by account a in all items
unfoldable pub all_lost : World → ℕ → Course → ℤ
all_lost w a y = total (length w.items) (lost_in w a y)

-- a course that the rules allow: no more of an order than is left, at its price or a better one, and the day's end within the bands
pub record Allowed (w : World) (y : Course) : Type 0 where
  pub much : (o : Order) → y.much o ≤ o.left
  pub at : (o : Order) → AsGood o.side (y.at o) o.price
  pub ends : (k : ℕ) → k < length w.items → InBand (item w k) (y.ends k)

-- however the day goes on, no account loses more than it needs
unfoldable pub NeedIsEnough : Type 0
NeedIsEnough = (z : Limits) (w : World) (a : ℕ) (y : Course) → Sound z w → Allowed w y → all_lost w a y ≤ℤ need w a w.orders

-- and it can go on so that the account loses just that
unfoldable pub NeedIsReached : Type 0
NeedIsReached =
    (z : Limits) (w : World) (a : ℕ) → Sound z w → (y : Course) × Allowed w y × (all_lost w a y ≡ need w a w.orders)
