-- How large a need can be, and every partial sum of it.
use Rattle.std.proofs.Common.{ℕ, suc, ◌+◌, ◌*◌, ◌<◌, ◌≤◌, Bool, ◌&&◌, List, [], ◌∷◌, ◌++◌, length, ℤ, pos, ◌+ℤ◌, ◌*ℤ◌, neg_ℤ, ◌≤ℤ◌, mul-le-mul_right, mul-le-mul_left, arith, rules}
use Rattle.std.specs.List.{AllByRecursion}
use Rattle.std.proofs.lemmas.Int.{ints}
use Rattle.std.proofs.ByRecursion.{All-push, All-weaker}
use Rattle.venue.proofs.Margins.{need_0}
use Rattle.venue.proofs.Picks.{abs_is, larger_within}
use Rattle.venue.proofs.RangesMarket.{inv_range}
use Rattle.venue.proofs.Turns.{within_new}
use Rattle.venue.specs.Invariant.{Inv}
use Rattle.venue.specs.Ranges.{ItemRange, OrderRange}
use Rattle.venue.specs.Sizes.{Small}
use Rattle.venue.specs.World.{Account, Item, Limits, Order, World, abs, account, buys, counted, held, larger, need, need_from, need_in, pick}
use Rattle.venue.specs.World.{sells, standing}

-- what an order adds to a loss is at most 3,000,000 for each that is left of it
share_le : (a k b : Bool) (l c : ℕ) → c ≤ 3000000 → pick (a && (k && b)) (l * c) 0 ≤ pick (a && k) l 0 * 3000000
share_le a k b l c e = grind (arith, ints, mul-le-mul_left l e)

-- an order's price that fits
abbrev pub Priced : Order → Type 0
Priced o = o.price ≤ 2000000

pub buys_le : (a k : ℕ) (i : Item) (os : List Order) → ItemRange i → AllByRecursion Priced os → buys a k i os ≤ standing a k os * 3000000
unfolding buys standing
buys_le a k i [] r p = omega arith
buys_le a k i (o ∷ os) r p = search (rules, share_le, buys_le a k i os r p.1)

pub sells_le : (a k : ℕ) (i : Item) (os : List Order) → ItemRange i → sells a k i os ≤ standing a k os * 3000000
unfolding sells standing
sells_le a k i [] r = omega arith
sells_le a k i (o ∷ os) r = search (rules, share_le, sells_le a k i os r)

-- a holding times a band
band_le : (h : ℤ) (b : ℕ) → b ≤ 1000000 → ((h *ℤ pos b) ≤ℤ pos (abs h * 3000000)) × (neg_ℤ (h *ℤ pos b) ≤ℤ pos (abs h * 3000000))
band_le h b e = grind (arith, ints, abs_is, mul-le-mul_left)

larger_le : (H : ℤ) (b s m n : ℕ) → H ≤ℤ pos m → neg_ℤ H ≤ℤ pos m → b ≤ n → s ≤ n → larger (H +ℤ pos b) (neg_ℤ H +ℤ pos s) ≤ℤ pos (m + n)
larger_le H b s m n f g c d = larger_within _ _ _ (omega (arith, ints)) (omega (arith, ints))

pub need_in_le : (a k : ℕ) (i : Item) (h : ℤ) (os : List Order) (m : ℕ) → ItemRange i → AllByRecursion Priced os → abs h + standing a k os ≤ m →
    need_in a k i h os ≤ℤ pos (m * 3000000)
unfolding need_in
need_in_le a k i h os m r p l =
    let b = band_le h i.band (omega (arith, r.price, r.band_high)) in
    let q = larger_le (h *ℤ pos i.band) (buys a k i os) (sells a k i os) (abs h * 3000000) (standing a k os * 3000000) b.0 b.1
    (buys_le a k i os r p) (sells_le a k i os r) in
    let t = mul-le-mul_right 3000000 l in
    omega (arith, ints)

-- the sum over any items
pub need_from_le : (a k : ℕ) (is : List Item) (x : Account) (os : List Order) (m : ℕ) → AllByRecursion ItemRange is → AllByRecursion Priced os →
    ((j : ℕ) → abs (held x j) + standing a j os ≤ m) → need_from a k is x os ≤ℤ pos (length is * (m * 3000000))
unfolding need_from
need_from_le a k [] x os m r p f = omega (arith, ints)
need_from_le a k (i ∷ is) x os m r p f =
    let q = need_in_le a k i (held x k) os m r.0 p (f k) in
    let t = need_from_le a (suc k) is x os m r.1 p f in
    omega (arith, ints)

-- 256 items, and 2 ^ 31 of each
pub need_range : (w : World) (a : ℕ) (os : List Order) → length w.items ≤ 256 → AllByRecursion ItemRange w.items → AllByRecursion Priced os →
    ((k : ℕ) → abs (held (account w a) k) + standing a k os ≤ 2147483648) →
    (pos 0 ≤ℤ need w a os) × (need w a os ≤ℤ pos 1649267441664000000)
unfolding need
need_range w a os n r p f =
    let t = need_from_le a 0 w.items (account w a) os 2147483648 r p f in
    let q = mul-le-mul_right 6442450944000000 n in
    (need_0 w a os, omega (arith, ints))

priced : (n m : ℕ) (os : List Order) → AllByRecursion (OrderRange n m) os → AllByRecursion Priced os
priced n m os f = All-weaker (OrderRange n m) Priced (λ o r. r.price) os f

-- what an account needs between two messages
pub inv_need : (z : Limits) (w : World) (a : ℕ) → Small z → length w.items ≤ 256 → Inv z w → a < length w.accounts →
    (pos 0 ≤ℤ need w a w.orders) × (need w a w.orders ≤ℤ pos 1649267441664000000)
inv_need z w a s n i h =
    let r = inv_range z w s i in
    need_range w a w.orders n r.items (priced (length w.accounts) (length w.items) w.orders r.orders)
    (λ k. omega (arith, i.holds a k h, s.holding))

-- and what it needs with a new order of its own, if it may hold so much
pub new_need : (z : Limits) (w : World) (o : Order) → Small z → length w.items ≤ 256 → Inv z w → o.account < length w.accounts →
    o.price ≤ 2000000 → abs (held (account w o.account) o.item) + standing o.account o.item w.orders + o.left ≤ z.holding →
    (pos 0 ≤ℤ need w o.account (w.orders ++ o ∷ [])) × (need w o.account (w.orders ++ o ∷ []) ≤ℤ pos 1649267441664000000)
unfolding counted account
new_need z w o s n i h p l =
    let r = inv_range z w s i in
    need_range w o.account (w.orders ++ o ∷ []) n r.items
    (All-push Priced w.orders o (priced (length w.accounts) (length w.items) w.orders r.orders) p)
    (λ k. omega (arith, within_new z.holding w o i.holds l o.account k h, s.holding))
