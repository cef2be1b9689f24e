-- All that is kept of a market, as a test that a program could make. Assumes nothing: these are definitions.
use Rattle.std.specs.Prelude.{◌≡◌, ℕ, zero, suc, ◌+◌, Bool, true, not, ◌&&◌, ◌||◌, List, [], ◌∷◌, length, ℤ, pos, ◌==◌, int_le, nat_le, nat_lt}
use Rattle.venue.specs.Promise.{all_cash, all_held}
use Rattle.venue.specs.World.{Account, Item, Limits, Order, World, abs, account, covered, held, is_buy, item, standing}

-- f of every element
unfoldable pub every : {A : Type 0} → (A → Bool) → List A → Bool
every f [] = true
every f (x ∷ xs) = f x && every f xs

-- f of every number below n
unfoldable pub below : ℕ → (ℕ → Bool) → Bool
below zero f = true
below (suc n) f = f n && below n f

-- two whole numbers are equal
abbrev pub same : ℤ → ℤ → Bool
same a b = int_le a b && int_le b a

-- every account has a holding of each item
unfoldable pub holds_each : World → Bool
holds_each w = every (λ (x : Account). length x.holds == length w.items) w.accounts

-- the order's account and item are there, and its price lies within the item's band
unfoldable pub in_place : World → Order → Bool
in_place w o =
    nat_lt o.account (length w.accounts) && nat_lt o.item (length w.items)
    && nat_le (item w o.item).price (o.price + (item w o.item).band) && nat_le o.price ((item w o.item).price + (item w o.item).band)

-- from 1 to 1,000,000 is left of the order
unfoldable pub some_left : Order → Bool
some_left o = nat_le 1 o.left && nat_le o.left 1000000

-- the orders' numbers rise from t on and stay below n
unfoldable pub rising : ℕ → List Order → ℕ → Bool
rising t [] n = nat_le t n
rising t (o ∷ os) n = nat_le t o.number && rising (suc o.number) os n

-- all cash is the money that was paid in and not out
unfoldable pub cash_adds_up : World → Bool
cash_adds_up w = same (all_cash w.accounts) (pos w.money)

-- of each item as much is owed as owned
unfoldable pub holds_cancel : World → Bool
holds_cancel w = below (length w.items) (λ (k : ℕ). same (all_held k w.accounts) (pos 0))

-- nobody's cash is below 0
unfoldable pub no_debts : World → Bool
no_debts w = every (λ (x : Account). int_le (pos 0) x.cash) w.accounts

-- while there is trading everybody can lose all that can be lost by the day's end
unfoldable pub all_covered : World → Bool
all_covered w = not w.trading || below (length w.accounts) (λ (a : ℕ). covered w a w.orders)

-- no order stands while there is no trading
unfoldable pub cleared : World → Bool
cleared w = w.trading || length w.orders == 0

-- b and s cannot trade with b as the buyer and s as the seller
unfoldable pub apart : Order → Order → Bool
apart b s = not (is_buy b.side && (not (is_buy s.side) && b.item == s.item)) || nat_lt b.price s.price

-- no two orders can trade
unfoldable pub not_crossed : World → Bool
not_crossed w = every (λ (b : Order). every (apart b) w.orders) w.orders

-- an item's band is at least 1 and no larger than its price, and its price at most 1,000,000
unfoldable pub item_fits : Item → Bool
item_fits i = nat_le 1 i.band && nat_le i.band i.price && nat_le i.price 1000000

-- nobody comes to hold or owe more of an item than the limit, with all orders carried out
unfoldable pub holds_fit : Limits → World → Bool
holds_fit z w =
    below (length w.accounts) (λ (a : ℕ). below (length w.items) (λ (k : ℕ).
    nat_le (abs (held (account w a) k) + standing a k w.orders) z.holding))

-- orders, money and the next order's number are within their limits
unfoldable pub limits_hold : Limits → World → Bool
limits_hold z w = nat_le (length w.orders) z.orders && nat_le w.money z.money && nat_le w.next 9223372036854775808

-- all of it
unfoldable pub sound_test : Limits → World → Bool
sound_test z w =
    holds_each w && every (in_place w) w.orders && every some_left w.orders && rising 1 w.orders w.next
    && cash_adds_up w && holds_cancel w && no_debts w && all_covered w && cleared w && not_crossed w
    && every item_fits w.items && holds_fit z w && limits_hold z w

-- a market that passes
abbrev pub Sound : Limits → World → Type 0
Sound z w = sound_test z w ≡ true
