-- How trades and tear-ups change what an account holds, by their reports.
use Rattle.std.proofs.Common.{◌≡◌, ℕ, suc, ◌<◌, ◌≤◌, ◌&&◌, eqb, ◌≢◌, List, [], ◌∷◌, length, get_or, ℤ, pos, ◌+ℤ◌, ◌-ℤ◌, sym, refl, subst, arith, rules}
use Rattle.std.specs.List.{AllByRecursion}
use Rattle.std.proofs.lemmas.Int.{ints}
use Rattle.std.proofs.ByRecursion.{All-get_or, All-push, All-weaker}
use Rattle.std.proofs.lemmas.Bool.{ne_eqb}
use Rattle.venue.proofs.Payments.{with_cash}
use Rattle.venue.proofs.Placings.{placed}
use Rattle.venue.specs.Invariant.{Rising}
use Rattle.venue.specs.Turn.{Turn}
use Rattle.venue.proofs.Orders.{all_taken}
use Rattle.venue.specs.Morning.{Steps, more, none, sum_over}
use Rattle.venue.specs.Placing.{Carried, all_gone, stands, trades}
use Rattle.venue.specs.Positions.{change, side_of}
use Rattle.venue.proofs.Mornings.{told_step}
use Rattle.venue.specs.World.{Limits, Message, Order, Report, Side, World, account, begin_day, counted, held, is_buy, less_left, matched}
use Rattle.venue.specs.World.{new_order, no_order, pick, place, with_account, with_money, with_orders}

-- each order that stands is its owner's
abbrev pub Owned : (ℕ → ℕ) → List Order → Type 0
Owned own os = AllByRecursion (λ (o : Order). own o.number ≡ o.account) os

-- by the steps of a morning
pub tally_steps : (own : ℕ → ℕ) (w v : World) (rs : List Report) (c k : ℕ) → Steps w rs v →
    held (account v c) k ≡ held (account w c) k +ℤ sum_over (change own c k begin_day) rs
unfolding sum_over change
tally_steps own w v rs c k none = omega (arith, ints)
tally_steps own w v rs c k (more o s) =
    let e = tally_steps own _ v _ c k s in
    let d = told_step w _ _ _ _ _ c k o in
    omega (arith, ints)

added : (h h' h'' a b y : ℤ) → h ≡ h' +ℤ y → h' ≡ (h'' +ℤ a) -ℤ b → h ≡ h'' +ℤ ((a -ℤ b) +ℤ y)
added h h' h'' a b y e d = omega (arith, ints)

-- by the trades of an order of message m
tally_carried : (own : ℕ → ℕ) (m : Message) (w u : World) (o : Order) (rs : List Report) (c k : ℕ) → own o.number ≡ o.account →
    side_of m ≡ o.side → Owned own w.orders → Carried w o rs u →
    (held (account u c) k ≡ held (account w c) k +ℤ sum_over (change own c k m) rs) × Owned own u.orders
unfolding sum_over change less_left with_orders account
tally_carried own m w u o rs c k e d f (all_gone g) = (omega (arith, ints), f)
tally_carried own m w u o rs c k e d f (stands g h) = search (rules, All-push)
tally_carried own m w u o rs c k e d f (trades j x t s) =
    let r = tally_carried own m _ u (less_left o x) _ c k e d
    (subst (Owned own) (sym t.orders) (all_taken (λ (o : Order). own o.number ≡ o.account) (λ p y h l. h) j x w.orders f)) s in
    let q = t.moved.holds c k in
    let g = All-get_or (λ (o : Order). own o.number ≡ o.account) w.orders j no_order t.first.there f in
    let b = (get_or w.orders j no_order).account in (
      rw (d, e, g)
          (added _ _ (held (account w c) k) (pick (eqb c (pick (is_buy o.side) o.account b) && eqb k o.item) (pos x) (pos 0))
          (pick (eqb c (pick (is_buy o.side) b o.account) && eqb k o.item) (pos x) (pos 0)) _ r.0 q),
      r.1,
    )

-- a new number changes nothing for others
pub owned_other : (own : ℕ → ℕ) (a n : ℕ) (os : List Order) → AllByRecursion (λ (o : Order). o.number ≢ n) os → Owned own os →
    Owned (λ (i : ℕ). pick (eqb i n) a (own i)) os
owned_other own a n [] f g = tt
owned_other own a n (o ∷ os) f g = (rw (ne_eqb o.number n f.0) g.0, owned_other own a n os f.1 g.1)

pub numbers_from : (t : ℕ) (os : List Order) (n : ℕ) → Rising t os n → AllByRecursion (λ (o : Order). t ≤ o.number) os
numbers_from t [] n r = tt
numbers_from t (o ∷ os) n r = search (rules, All-weaker, numbers_from (suc o.number) os n r.1)

pub cash_held : (w : World) (a m : ℕ) (y : ℤ) (c k : ℕ) → a < length w.accounts →
    held (account (with_money (with_account w a (with_cash w a y)) m) c) k ≡ held (account w c) k
unfolding with_money with_account account held
cash_held w a m y c k h = search rules

-- a new order, with its owner known
pub tally_new : (z : Limits) (w : World) (own : ℕ → ℕ) (c j a k : ℕ) (s : Side) (p q : ℕ) → Turn z (counted w) (new_order w a k s p q) →
    own w.next ≡ a → Owned own w.orders →
    (held (account (matched (suc (length w.orders)) (counted w) (new_order w a k s p q)).0 c) j
    ≡ held (account w c) j
    +ℤ sum_over (change own c j (place a k s p q)) (matched (suc (length w.orders)) (counted w) (new_order w a k s p q)).1)
    × Owned own (matched (suc (length w.orders)) (counted w) (new_order w a k s p q)).0.orders
unfolding new_order counted account side_of
tally_new z w own c j a k s p q t e f =
    tally_carried own (place a k s p q) (counted w) _ (new_order w a k s p q) _ c j e refl f (placed z w (new_order w a k s p q) t)
