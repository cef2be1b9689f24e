-- What holds at every turn while an order is carried out. Assumes nothing: these are definitions.
use Rattle.std.specs.Prelude.{◌≡◌, ℕ, suc, ◌+◌, ◌≤◌, Bool, true, ◌&&◌, [], ◌∷◌, ◌++◌, length, pos, nat_le, nat_lt, slice_index_or}
use Rattle.std.specs.List.{AllByRecursion}
use Rattle.venue.specs.Invariant.{Calm, Cover, Left, Placed, Rising, Wide, Within}
use Rattle.venue.specs.Promise.{SoundItems, all_cash, all_held}
use Rattle.venue.specs.World.{Limits, Order, Side, World, abs, account, best, covered, held, item, lesser, new_order, no_order, standing}

-- whether account a may place an order, as `says_it` asks
abbrev pub may_place : Limits → World → ℕ → ℕ → Side → ℕ → ℕ → Bool
may_place z w a k s p q =
    (w.trading && (nat_lt a (length w.accounts) && nat_lt k (length w.items))) &&
    (((nat_le 1 q && nat_le q 1000000) && (nat_le (item w k).price (p + (item w k).band) && nat_le p ((item w k).price + (item w k).band))) &&
    ((nat_lt (length w.orders) z.orders && nat_lt w.next 9223372036854775808) &&
    (nat_le (abs (held (account w a) k) + standing a k w.orders + q) z.holding && covered w a (w.orders ++ new_order w a k s p q ∷ []))))

-- the order that o trades with first
abbrev pub partner : World → Order → Order
partner w o = slice_index_or w.orders (best o w.orders) no_order

-- and how much they trade
abbrev pub exchanged : World → Order → ℕ
exchanged w o = lesser o.left (partner w o).left

-- o is the order being placed, with what is left of it. It counts as standing behind all others, though it isn't among them yet
pub record Turn (z : Limits) (w : World) (o : Order) : Type 0 where
  pub wide : AllByRecursion (Wide (length w.items)) w.accounts
  pub placed : AllByRecursion (Placed (length w.accounts) w.items) w.orders
  pub order : Placed (length w.accounts) w.items o
  pub left : AllByRecursion Left w.orders
  pub most : o.left ≤ 1000000
  pub numbers : Rising 1 w.orders o.number
  pub number : w.next ≡ suc o.number
  pub cash : all_cash w.accounts ≡ pos w.money
  pub held : (k : ℕ) → all_held k w.accounts ≡ pos 0
  pub cover : Cover w (w.orders ++ o ∷ [])
  pub calm : Calm w.orders
  pub items : SoundItems w.items
  pub holds : Within z.holding w (w.orders ++ o ∷ [])
  -- there is room for what is left of it
  pub room : suc (length w.orders) ≤ z.orders
  pub money : w.money ≤ z.money
  pub next : w.next ≤ 9223372036854775808
  pub trading : w.trading ≡ true
