-- Taking an order back, in plain words. Assumes nothing: these are definitions and statements.
use Rattle.std.specs.Prelude.{◌≡◌, ℕ, suc, ◌<◌, true, ◌↔◌, List, [], ◌∷◌, ◌++◌, length, take, drop, slice_index_or}
use Rattle.venue.specs.World.{Limits, Order, World, cancel, done, no_order, says}

-- the order in place j has number n and is account a's
pub record StandsAt (os : List Order) (a n j : ℕ) : Type 0 where
  pub there : j < length os
  pub number : (slice_index_or os j no_order).number ≡ n
  pub account : (slice_index_or os j no_order).account ≡ a

-- w becomes v by taking back account a's order n: it is gone, and all else is as it was
pub record Cancelled (w v : World) (a n : ℕ) : Type 0 where
  pub place : ℕ
  pub stood : StandsAt w.orders a n place
  pub orders : v.orders ≡ take place w.orders ++ drop (suc place) w.orders
  pub items : v.items ≡ w.items
  pub accounts : v.accounts ≡ w.accounts
  pub next : v.next ≡ w.next
  pub money : v.money ≡ w.money
  pub trading : v.trading ≡ w.trading

-- an order can be taken back exactly if it stands and is the account's own
unfoldable pub CancelTaken : Type 0
CancelTaken =
    (z : Limits) (w : World) (a n : ℕ) → z.built 4 ≡ true →
    ((says z w (cancel a n)).1 ≡ done 0 ∷ []) ↔ ((j : ℕ) × StandsAt w.orders a n j)

-- and then it is gone
unfoldable pub CancelRemoves : Type 0
CancelRemoves =
    (z : Limits) (w : World) (a n : ℕ) → (says z w (cancel a n)).1 ≡ done 0 ∷ [] → Cancelled w (says z w (cancel a n)).0 a n
