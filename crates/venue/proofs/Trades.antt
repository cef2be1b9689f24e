-- A trade: two orders that meet, each carried out in part. One argument for both sides, by what a buyer or a seller gets.
use Rattle.std.proofs.Common.{◌≡◌, ℕ, ◌+◌, ◌<◌, ◌≤◌, Bool, true, false, not, List, length, ℤ, pos, ◌+ℤ◌, neg_ℤ, subst, arith, rules}
use Rattle.std.specs.List.{AllByRecursion}
use Rattle.std.proofs.lemmas.Int.{ints}
use Rattle.venue.proofs.Covering.{paid_buy, paid_more, paid_sell}
use Rattle.venue.proofs.Crossing.{meets_buy, meets_sell}
use Rattle.venue.proofs.Gets.{items_gets, many_gets, wide_at, wide_gets}
use Rattle.venue.proofs.Standing.{abs_less, abs_more, within_gets}
use Rattle.venue.proofs.Swaps.{Swapped, swapped}
use Rattle.venue.proofs.Weights.{Less, part}
use Rattle.venue.specs.Invariant.{Placed, Wide, Within}
use Rattle.venue.specs.Trade.{PaidFor}
use Rattle.venue.specs.World.{Order, World, abs, account, gets, is_buy, item, meets, taken, traded, with_orders}

-- what a buyer, or a seller, gets by a trade of x
abbrev pub moved : Bool → ℕ → ℤ
moved true x = pos x
moved false x = neg_ℤ (pos x)

-- two orders of a market that may trade; b: whether the first buys
pub record Fit (w : World) (o r : Order) (b : Bool) : Type 0 where
  pub wide : AllByRecursion (Wide (length w.items)) w.accounts
  pub one : Placed (length w.accounts) w.items o
  pub two : Placed (length w.accounts) w.items r
  pub same : r.item ≡ o.item
  pub side : is_buy o.side ≡ b
  pub other : is_buy r.side ≡ not b
  pub low : b ≡ true → r.price ≤ o.price
  pub high : b ≡ false → o.price ≤ r.price

pub fit_meets : (w : World) (o r : Order) → AllByRecursion (Wide (length w.items)) w.accounts → Placed (length w.accounts) w.items o →
    Placed (length w.accounts) w.items r → meets o r ≡ true → (b : Bool) → is_buy o.side ≡ b → Fit w o r b
fit_meets w o r f ho hr m b e = search (rules, meets_buy, meets_sell)

-- a gets, then b
abbrev pub two_get : World → Order → Order → ℕ → Bool → World
two_get w o r x b = gets (gets w o.account o.item (moved b x) r.price) r.account o.item (moved (not b) x) r.price

pub traded_is : (w : World) (o r : Order) (j x : ℕ) →
    traded w o r j x ≡ two_get (with_orders w (taken j x w.orders)) o r x (is_buy o.side)
unfolding traded
traded_is w o r j x = search rules

-- the order u is carried out for p
paid_side : (w : World) (u : Order) (p : ℕ) (os os' : List Order) (b : Bool) → is_buy u.side ≡ b → u.account < length w.accounts →
    u.item < length w.items → u.item < length (account w u.account).holds → Less os os' u → (b ≡ true → p ≤ u.price) →
    (b ≡ false → u.price ≤ p) → p ≤ (item w u.item).price + (item w u.item).band → (item w u.item).price ≤ p + (item w u.item).band →
    PaidFor w os (gets w u.account u.item (moved b u.left) p) os'
paid_side w u p os os' b e f g h l m q r t = grind (arith, ints, paid_buy, paid_sell)

abs_moved : (b : Bool) (x : ℕ) (h : ℤ) → abs (h +ℤ moved b x) ≤ abs h + x
abs_moved b x h = grind (arith, ints, abs_more, abs_less)

moved_cancel : (b : Bool) (x : ℕ) → moved b x +ℤ moved (not b) x ≡ pos 0
moved_cancel b x = grind (arith, ints)

module _ (w : World) (o r : Order) (x : ℕ) (b : Bool) (f : Fit w o r b) where
  abbrev w1 : World
  w1 = gets w o.account o.item (moved b x) r.price

  lr : r.account < length w1.accounts
  lr = omega (arith, f.two.0, many_gets w o.account o.item (moved b x) r.price)

  deep : o.item < length (account w o.account).holds
  deep = omega (arith, wide_at (length w.items) w o.account f.one.0 f.wide, f.one.1)

  deep1 : r.item < length (account w1 r.account).holds
  deep1 = search (rules, wide_at, lr, wide_gets)

  pub two_swapped : Swapped w (two_get w o r x b)
  two_swapped = search (rules, swapped, moved_cancel)

  pub two_paid : (os os1 os2 : List Order) → Less os os1 (part o x) → Less os1 os2 (part r x) → PaidFor w os (two_get w o r x b) os2
  unfolding item
  two_paid os os1 os2 d e =
      subst (λ (k : ℕ). PaidFor w os (gets w1 r.account k (moved (not b) x) r.price) os2) f.same
      (paid_more w w1 _ os os1 os2 (many_gets w o.account o.item (moved b x) r.price)
      (paid_side w (part o x) r.price os os1 b f.side f.one.0 f.one.1 deep d f.low f.high
      (rw (← f.same) f.two.3) (rw (← f.same) f.two.2))
      (paid_side w1 (part r x) r.price os1 os2 (not b) f.other lr (rw items_gets f.two.1) deep1 e (λ t. omega arith) (λ t. omega arith)
      (rw items_gets f.two.3) (rw items_gets f.two.2)))

  pub two_within : (H : ℕ) (os os1 os2 : List Order) → Less os os1 (part o x) → Less os1 os2 (part r x) → Within H w os →
      Within H (two_get w o r x b) os2
  two_within H os os1 os2 d e v =
      subst (λ (k : ℕ). Within H (gets w1 r.account k (moved (not b) x) r.price) os2) f.same
      (within_gets H w1 (part r x) (moved (not b) x) r.price os1 os2 (abs_moved (not b) x) lr deep1 e
      (within_gets H w (part o x) (moved b x) r.price os os1 (abs_moved b x) f.one.0 deep d v))
