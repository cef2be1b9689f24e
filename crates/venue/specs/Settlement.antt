-- The day's end in plain words. Assumes nothing: these are definitions and statements.
use Rattle.std.specs.Prelude.{◌≡◌, ℕ, zero, suc, ◌+◌, ◌<◌, ◌≤◌, true, false, ◌↔◌, List, [], ◌∷◌, length, ℤ, pos, ◌+ℤ◌, ◌-ℤ◌, ◌*ℤ◌, slice_index, slice_index_or}
use Rattle.venue.specs.World.{Item, Limits, World, account, done, end_day, held, item, no_item, says}

-- the sum of f below n
unfoldable pub total : ℕ → (ℕ → ℤ) → ℤ
total zero f = pos 0
total (suc n) f = total n f +ℤ f n

-- price p lies within item i's band
pub record InBand (i : Item) (p : ℕ) : Type 0 where
  pub low : i.price ≤ p + i.band
  pub high : p ≤ i.price + i.band

-- a new price and band of item i: the price within the old band, the band at least 1 and no larger than the price
pub record NewFits (i : Item) (p b : ℕ) : Type 0 where
  pub within : InBand i p
  pub some : 1 ≤ b
  pub band : b ≤ p
  pub price : p ≤ 1000000

-- new prices and bands, one for each item
pub record AllFit (is : List Item) (ps bs : List ℕ) : Type 0 where
  pub prices : length ps ≡ length is
  pub bands : length bs ≡ length is
  pub each : (k : ℕ) → k < length is → NewFits (slice_index_or is k no_item) (slice_index ps k) (slice_index bs k)

-- w becomes v by the day's end: each account's money grows by the sum of what it holds of each item times the item's new price less its old one,
-- to the last unit; holdings stay; the new prices and bands hold; no orders stand, and there is no trading
pub record Settled (w v : World) (ps bs : List ℕ) : Type 0 where
  pub cash : (a : ℕ) → a < length w.accounts →
      (account v a).cash ≡ (account w a).cash
      +ℤ total (length w.items) (λ (k : ℕ). held (account w a) k *ℤ (pos (slice_index ps k) -ℤ pos (item w k).price))
  pub holds : (a k : ℕ) → held (account v a) k ≡ held (account w a) k
  pub accounts : length v.accounts ≡ length w.accounts
  pub items : length v.items ≡ length w.items
  pub prices : (k : ℕ) → k < length w.items → (item v k).price ≡ slice_index ps k
  pub bands : (k : ℕ) → k < length w.items → (item v k).band ≡ slice_index bs k
  pub orders : v.orders ≡ []
  pub next : v.next ≡ w.next
  pub money : v.money ≡ w.money
  pub trading : v.trading ≡ false

-- a day's end is taken exactly if there is trading and the new prices and bands fit
unfoldable pub EndDayTaken : Type 0
EndDayTaken =
    (z : Limits) (w : World) (ps bs : List ℕ) → z.built 5 ≡ true →
    ((says z w (end_day ps bs)).1 ≡ done 0 ∷ []) ↔ ((w.trading ≡ true) × AllFit w.items ps bs)

-- and then the market is settled
unfoldable pub EndDaySettles : Type 0
EndDaySettles =
    (z : Limits) (w : World) (ps bs : List ℕ) → (says z w (end_day ps bs)).1 ≡ done 0 ∷ [] → Settled w (says z w (end_day ps bs)).0 ps bs
