-- An order being placed, in plain words: when it is taken, which trades it makes, and what they move. Assumes nothing: these are definitions and statements.
use Rattle.std.specs.Prelude.{◌≡◌, ℕ, suc, ◌+◌, ◌-◌, ◌<◌, ◌≤◌, true, ◌&&◌, ◌⊎◌, List, [], ◌∷◌, ◌++◌, length, slice_index_or, take, drop, pos, ◌+ℤ◌, ◌-ℤ◌, ◌*ℤ◌, ◌≤ℤ◌, ◌==◌}
use Rattle.venue.specs.Priority.{CanTrade, FirstFor}
use Rattle.venue.specs.Settlement.{InBand}
use Rattle.venue.specs.Sound.{Sound}
use Rattle.venue.specs.World.{Limits, Order, Report, Side, World, abs, account, counted, done, held, is_buy, item, less_left, need, no, no_order}
use Rattle.venue.specs.World.{pick, place, says, standing, taken, trade, with_orders}

-- account a may place an order of q of item k at p: there is trading, and there are the account and the item; the amount is within its limits, and the
-- price within the band; there is room for an order and a number; all that the account may come to hold or owe is within the limit; and it can lose all
-- that it can lose with the new order
pub record MayPlace (z : Limits) (w : World) (a k : ℕ) (s : Side) (p q : ℕ) : Type 0 where
  pub trading : w.trading ≡ true
  pub who : a < length w.accounts
  pub what : k < length w.items
  pub some : 1 ≤ q
  pub most : q ≤ 1000000
  pub price : InBand (item w k) p
  pub room : length w.orders < z.orders
  pub number : w.next < 9223372036854775808
  pub holds : abs (held (account w a) k) + standing a k w.orders + q ≤ z.holding
  pub covered : need w a (w.orders ++ record { number = w.next; account = a; item = k; side = s; price = p; left = q } ∷ []) ≤ℤ (account w a).cash

-- x of item k goes from a seller to a buyer for p each. Of the item's price nothing is paid, only what p is above or below it, and no money comes or goes
pub record Exchanged (w v : World) (buyer seller k p x : ℕ) : Type 0 where
  pub holds : (c j : ℕ) →
      held (account v c) j
      ≡ (held (account w c) j +ℤ pick (c == buyer && j == k) (pos x) (pos 0)) -ℤ pick (c == seller && j == k) (pos x) (pos 0)
  pub cash : (c : ℕ) →
      (account v c).cash
      ≡ ((account w c).cash -ℤ pick (c == buyer) (pos x *ℤ (pos p -ℤ pos (item w k).price)) (pos 0))
      +ℤ pick (c == seller) (pos x *ℤ (pos p -ℤ pos (item w k).price)) (pos 0)
  pub items : v.items ≡ w.items
  pub next : v.next ≡ w.next
  pub money : v.money ≡ w.money
  pub trading : v.trading ≡ w.trading

-- order o trades x with r, the order in place j: r is the first for o, and is older; x is what is left of one of them, and no more than is left of the
-- other; and it goes at r's price
pub record TradesWith (w v : World) (o r : Order) (j x : ℕ) : Type 0 where
  pub first : FirstFor o w.orders j
  pub older : r.number < o.number
  pub some : 1 ≤ x
  pub most : ((x ≡ o.left) × (x ≤ r.left)) ⊎ ((x ≡ r.left) × (x ≤ o.left))
  pub orders : v.orders ≡ taken j x w.orders
  pub moved : Exchanged w v (pick (is_buy o.side) o.account r.account) (pick (is_buy o.side) r.account o.account) o.item r.price x

-- w becomes u while order o is carried out, with a report of each trade; in the end nothing is left of it, or what is left stands behind all others
-- and none of them can trade with it
pub data Carried : World → Order → List Report → World → Type 0 where
  all_gone : {w : World} {o : Order} → o.left ≡ 0 → Carried w o [] w
  stands : {w : World} {o : Order} → 1 ≤ o.left → ((j : ℕ) → j < length w.orders → CanTrade o (slice_index_or w.orders j no_order) → ⊥) →
      Carried w o [] (with_orders w (w.orders ++ o ∷ []))
  trades : {w v u : World} {o : Order} {rs : List Report} (j x : ℕ) → TradesWith w v o (slice_index_or w.orders j no_order) j x →
      Carried v (less_left o x) rs u →
      Carried w o (trade o.number (slice_index_or w.orders j no_order).number o.item (slice_index_or w.orders j no_order).price x ∷ rs) u

-- an order is taken exactly if the account may place it
unfoldable pub PlaceTaken : Type 0
PlaceTaken =
    (z : Limits) (w : World) (a k : ℕ) (s : Side) (p q : ℕ) → z.built 3 ≡ true →
    (MayPlace z w a k s p q → (rs : List Report) × ((says z w (place a k s p q)).1 ≡ done w.next ∷ rs))
    × ((MayPlace z w a k s p q → ⊥) → (says z w (place a k s p q)).1 ≡ no ∷ [])

-- and then it is carried out, with the next number, and with the account, item, side, price and amount that were asked for
unfoldable pub PlaceCarried : Type 0
PlaceCarried =
    (z : Limits) (w : World) (a k : ℕ) (s : Side) (p q : ℕ) (rs : List Report) → Sound z w → (says z w (place a k s p q)).1 ≡ done w.next ∷ rs →
    Carried (counted w) (record { number = w.next; account = a; item = k; side = s; price = p; left = q }) rs (says z w (place a k s p q)).0

-- what a trade leaves of the standing orders: x less of the one in place j, which is gone if nothing is left of it, and all others as they were
unfoldable pub TakenLeaves : Type 0
TakenLeaves =
    (j x : ℕ) (os : List Order) (r : Order) → j < length os → slice_index_or os j no_order ≡ r →
    (x < r.left → taken j x os
    ≡ take j os ++ record { number = r.number; account = r.account; item = r.item; side = r.side; price = r.price; left = r.left - x } ∷ drop (suc j) os)
    × (r.left ≤ x → taken j x os ≡ take j os ++ drop (suc j) os)
