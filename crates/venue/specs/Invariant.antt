-- All that is kept of a market, as plain facts: the record Inv. Assumes nothing: these are definitions.
use Rattle.std.specs.Prelude.{◌≡◌, ℕ, suc, ◌+◌, ◌<◌, ◌≤◌, true, false, List, [], ◌∷◌, length, pos, ◌≤ℤ◌, slice_index_or}
use Rattle.std.specs.List.{AllByRecursion}
use Rattle.venue.specs.Promise.{SoundItems, all_cash, all_held}
use Rattle.venue.specs.World.{Account, Item, Limits, Order, World, abs, account, buy, held, need, no_item, sell, standing}

-- an order of an account and an item that there are, at a price within the item's band
abbrev pub Placed : ℕ → List Item → Order → Type 0
Placed n is o =
    (o.account < n) × (o.item < length is)
    × ((slice_index_or is o.item no_item).price ≤ o.price + (slice_index_or is o.item no_item).band)
    × (o.price ≤ (slice_index_or is o.item no_item).price + (slice_index_or is o.item no_item).band)

-- something is left of an order, and no more than one may ask for
abbrev pub Left : Order → Type 0
Left o = (1 ≤ o.left) × (o.left ≤ 1000000)

-- the orders' numbers rise from t on and stay below n
abbrev pub Rising : ℕ → List Order → ℕ → Type 0
Rising t [] n = t ≤ n
Rising t (o ∷ os) n = (t ≤ o.number) × Rising (suc o.number) os n

-- a buyer b and a seller s that cannot trade
abbrev pub Uncrossed : Order → Order → Type 0
Uncrossed b s = b.side ≡ buy → s.side ≡ sell → b.item ≡ s.item → b.price < s.price

-- no two of the orders can trade
abbrev pub Calm : List Order → Type 0
Calm os = AllByRecursion (λ (b : Order). AllByRecursion (Uncrossed b) os) os

-- so many holdings
abbrev pub Wide : ℕ → Account → Type 0
Wide n x = length x.holds ≡ n

-- money not below 0
abbrev pub NotBelow : Account → Type 0
NotBelow x = pos 0 ≤ℤ x.cash

-- everybody can lose all that can be lost by the day's end, with the orders os
abbrev pub Cover : World → List Order → Type 0
Cover w os = (c : ℕ) → c < length w.accounts → need w c os ≤ℤ (account w c).cash

-- nobody comes to hold or owe more than h of an item, with the orders os carried out
abbrev pub Within : ℕ → World → List Order → Type 0
Within h w os = (c k : ℕ) → c < length w.accounts → abs (held (account w c) k) + standing c k os ≤ h

pub record Inv (z : Limits) (w : World) : Type 0 where
  -- every account has a holding of each item
  pub wide : AllByRecursion (Wide (length w.items)) w.accounts
  pub placed : AllByRecursion (Placed (length w.accounts) w.items) w.orders
  pub left : AllByRecursion Left w.orders
  pub numbers : Rising 1 w.orders w.next
  -- all cash is the money paid in, and of each item as much is owed as owned
  pub cash : all_cash w.accounts ≡ pos w.money
  pub held : (k : ℕ) → all_held k w.accounts ≡ pos 0
  pub rich : AllByRecursion NotBelow w.accounts
  pub cover : w.trading ≡ true → Cover w w.orders
  pub empty : w.trading ≡ false → w.orders ≡ []
  pub calm : Calm w.orders
  pub items : SoundItems w.items
  pub holds : Within z.holding w w.orders
  pub few : length w.orders ≤ z.orders
  pub money : w.money ≤ z.money
  pub next : w.next ≤ 9223372036854775808
