-- What is promised of soundness, ranges and reports. Each is a statement, a type whose proof is owed. Assumes nothing.
use Rattle.std.specs.Prelude.{◌≡◌, ℕ, ◌+◌, ◌*◌, ◌<◌, ◌≤◌, max, true, List, length, slice_index_or, take, pos, ◌≤ℤ◌, ◌<ℤ◌}
use Rattle.venue.specs.Invariant.{Inv}
use Rattle.venue.specs.Promise.{Safe, SoundItems}
use Rattle.venue.specs.Ranges.{OrderRange, Ranged}
use Rattle.venue.specs.Sizes.{Sized, Small}
use Rattle.venue.specs.Sound.{Sound}
use Rattle.venue.specs.Tearing.{Tearing}
use Rattle.venue.specs.Turn.{Turn, may_place}
use Rattle.venue.specs.World.{Item, Limits, Message, Order, Side, World, abs, account, counted, first, gain, less_left, meets, need, new_order}
use Rattle.venue.specs.World.{no_order, prices_fit, says, traded}

-- the test passes exactly the markets with all the facts of Inv
unfoldable pub SoundExact : Type 0
SoundExact = (z : Limits) (w : World) → (Sound z w → Inv z w) × (Inv z w → Sound z w)

-- first markets are sound, whatever the limits
unfoldable pub SoundFirst : Type 0
SoundFirst = (z : Limits) (is : List Item) (n : ℕ) → SoundItems is → Sound z (first is n)

-- every message keeps a market sound
unfoldable pub SoundSays : Type 0
SoundSays = (z : Limits) (w : World) (m : Message) → Sound z w → Sound z (says z w m).0

-- a sound market is safe
unfoldable pub SoundSafe : Type 0
SoundSafe = (z : Limits) (w : World) → Sound z w → Safe w

-- while an order is carried out all holds that its turns need, from the first on
unfoldable pub TurnsHold : Type 0
TurnsHold =
    ((z : Limits) (w : World) (a k : ℕ) (s : Side) (p q : ℕ) → Sound z w → may_place z w a k s p q ≡ true →
    Turn z (counted w) (new_order w a k s p q))
    × ((z : Limits) (w : World) (o : Order) (j x : ℕ) → Turn z w o → j < length w.orders → meets o (slice_index_or w.orders j no_order) ≡ true →
    x ≤ o.left → x ≤ (slice_index_or w.orders j no_order).left → Turn z (traded w o (slice_index_or w.orders j no_order) j x) (less_left o x))

-- how many items and accounts there are, and the limits, stay
unfoldable pub SizesStay : Type 0
SizesStay = (z : Limits) (w : World) (m : Message) → Sound z w → Sized z w → Sized z (says z w m).0

-- machine numbers hold a market between messages, at every turn of an order, and at every step of tearing up
unfoldable pub Ranges : Type 0
Ranges =
    ((z : Limits) (w : World) → Sound z w → Sized z w → Ranged w)
    × ((z : Limits) (w : World) (o : Order) → Small z → Turn z w o → Ranged w × OrderRange (length w.accounts) (length w.items) o)
    × ((z : Limits) (w : World) → Small z → Tearing z w → Ranged w)

-- what an account needs lies below 2 ^ 61, and every partial sum of what it gains in the evening below 2 ^ 60
unfoldable pub SumsFit : Type 0
SumsFit =
    ((z : Limits) (w : World) (a : ℕ) → Sound z w → Sized z w → a < length w.accounts →
    (pos 0 ≤ℤ need w a w.orders) × (need w a w.orders <ℤ pos 2305843009213693952))
    × ((z : Limits) (w : World) (a j : ℕ) (ps bs : List ℕ) → Sound z w → Sized z w → a < length w.accounts → j ≤ length w.items →
    prices_fit w.items ps bs ≡ true → abs (gain 0 (take j w.items) (take j ps) (account w a)) < 1152921504606846976)

-- a message has one report, and beside it at most a trade for each order that may stand, or a tear-up for each holding
unfoldable pub ReportsBound : Type 0
ReportsBound =
    (z : Limits) (w : World) (m : Message) → Sound z w → length (says z w m).1 ≤ 1 + max z.orders (length w.accounts * length w.items)
