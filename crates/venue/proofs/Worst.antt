-- What one order can lose: at both ends of the band, and that no price between is worse than both.
use Rattle.std.proofs.Common.{◌≡◌, ℕ, suc, ◌+◌, ◌-◌, ◌*◌, ◌≤◌, Bool, true, false, not, ◌&&◌, ℤ, pos, negsuc, ◌+ℤ◌, ◌-ℤ◌, ◌*ℤ◌, neg_ℤ, ◌≤ℤ◌, ap, ◌∙◌, mul-le-mul_right, mul-le-mul_left, arith, rules}
use Rattle.std.proofs.lemmas.Int.{ints}
use Rattle.venue.proofs.Ints.{dist_l, neg_l, neg_r, times_diff, times_diff_neg}
use Rattle.venue.proofs.Picks.{larger_left, larger_right}
use Rattle.venue.specs.Loss.{lost}
use Rattle.venue.specs.Priority.{AsGood}
use Rattle.venue.specs.World.{Side, buy, is_buy, larger, pick, sell}

-- the lower end of the band, and the upper
abbrev pub low : ℕ → ℕ → ℤ
low P B = pos P -ℤ pos B

abbrev pub high : ℕ → ℕ → ℤ
high P B = pos (P + B)

within : (y : ℤ) (a b c : ℕ) → y ≡ pos a -ℤ pos b → a ≤ c + b → y ≤ℤ pos c
within y a b c e f = omega (arith, ints)

from_low : (t P B : ℕ) → pos t -ℤ low P B ≡ pos (t + B) -ℤ pos P
from_low t P B = omega (arith, ints)

to_low : (t P B : ℕ) → low P B -ℤ pos t ≡ pos P -ℤ pos (t + B)
to_low t P B = omega (arith, ints)

-- x bought, or sold, at t by an order of price q, of which l is left
bought_low : (x l t q P B : ℕ) → x ≤ l → t ≤ q → (pos x *ℤ (pos t -ℤ low P B)) ≤ℤ pos (l * ((q + B) - P))
bought_low x l t q P B h g =
    let d : t + B ≤ ((q + B) - P) + P = omega arith in
    let m = mul-le-mul_left x d in
    let n = mul-le-mul_right ((q + B) - P) h in
    within _ (x * (t + B)) (x * P) (l * ((q + B) - P)) (ap (λ (y : ℤ). pos x *ℤ y) (from_low t P B) ∙ times_diff x (t + B) P) (omega arith)

sold_high : (x l t q P B : ℕ) → x ≤ l → q ≤ t → (pos x *ℤ (high P B -ℤ pos t)) ≤ℤ pos (l * ((P + B) - q))
sold_high x l t q P B h g =
    let d : P + B ≤ ((P + B) - q) + t = omega arith in
    let m = mul-le-mul_left x d in
    let n = mul-le-mul_right ((P + B) - q) h in
    within _ (x * (P + B)) (x * t) (l * ((P + B) - q)) (times_diff x (P + B) t) (omega arith)

-- an order in the account (c) and the item (e) that is asked for, or another
pub order_low : (c e : Bool) (s : Side) (x l t q P B : ℕ) → x ≤ l → AsGood s t q → (e ≡ true → P ≤ q + B) →
    pick (c && e) (lost s x t (low P B)) (pos 0) ≤ℤ pos (pick (c && (e && is_buy s)) (l * ((q + B) - P)) 0)
unfolding lost is_buy
order_low c e s x l t q P B f g h = grind (arith, ints, bought_low)

pub order_high : (c e : Bool) (s : Side) (x l t q P B : ℕ) → x ≤ l → AsGood s t q → (e ≡ true → q ≤ P + B) →
    pick (c && e) (lost s x t (high P B)) (pos 0) ≤ℤ pos (pick (c && (e && not (is_buy s))) (l * ((P + B) - q)) 0)
unfolding lost is_buy
order_high c e s x l t q P B f g h = grind (arith, ints, sold_high)

zero_times : (y : ℤ) → pos 0 *ℤ y ≡ pos 0
zero_times y = omega (arith, ints)

pub order_low_is : (c e : Bool) (s : Side) (x l q P B : ℕ) → (e ≡ true → x ≡ pick (is_buy s) l 0) → (e ≡ true → P ≤ q + B) →
    pick (c && e) (lost s x q (low P B)) (pos 0) ≡ pos (pick (c && (e && is_buy s)) (l * ((q + B) - P)) 0)
unfolding lost is_buy
order_low_is c e s x l q P B f g = search rules

pub order_high_is : (c e : Bool) (s : Side) (x l q P B : ℕ) → (e ≡ true → x ≡ pick (is_buy s) 0 l) → (e ≡ true → q ≤ P + B) →
    pick (c && e) (lost s x q (high P B)) (pos 0) ≡ pos (pick (c && (e && not (is_buy s))) (l * ((P + B) - q)) 0)
unfolding lost is_buy
order_high_is c e s x l q P B f g = search rules

-- a loss changes with the price at an even rate
pub rate_held : (X T p q : ℤ) → X *ℤ (T -ℤ q) ≡ (X *ℤ (T -ℤ p)) +ℤ (neg_ℤ X *ℤ (q -ℤ p))
rate_held X T p q = omega (arith, ints, dist_l T (neg_ℤ q) X, dist_l T (neg_ℤ p) X, neg_r X p, neg_r X q, dist_l q (neg_ℤ p) X, neg_l X (q -ℤ p))

rate_sold : (X T p q : ℤ) → X *ℤ (q -ℤ T) ≡ (X *ℤ (p -ℤ T)) +ℤ (X *ℤ (q -ℤ p))
rate_sold X T p q = omega (arith, ints, dist_l q (neg_ℤ T) X, dist_l p (neg_ℤ T) X, neg_r X p, dist_l q (neg_ℤ p) X)

-- that rate, for x of an order
pub rate : Side → ℕ → ℤ
rate buy x = neg_ℤ (pos x)
rate sell x = pos x

pub rate_order : (b : Bool) (s : Side) (x t : ℕ) (p q : ℤ) →
    pick b (lost s x t q) (pos 0) ≡ pick b (lost s x t p) (pos 0) +ℤ (pick b (rate s x) (pos 0) *ℤ (q -ℤ p))
unfolding lost rate
rate_order true buy x t p q = rate_held (pos x) (pos t) p q
rate_order true sell x t p q = rate_sold (pos x) (pos t) p q
rate_order false s x t p q = let e = zero_times (q -ℤ p) in omega (arith, ints)

-- so it is no larger than the larger of both ends
pub no_worse : (N L M H : ℤ) (P B p : ℕ) → P ≤ p + B → p ≤ P + B → M ≡ L +ℤ (N *ℤ (low P B -ℤ pos p)) → H ≡ L +ℤ (N *ℤ (high P B -ℤ pos p)) →
    L ≤ℤ larger M H
no_worse (pos n) L M H P B p f g e d =
    let m = mul-le-mul_left n g in
    above L M H (n * (P + B)) (n * p) (pos n *ℤ (high P B -ℤ pos p)) (times_diff n (P + B) p) d (omega arith)
  where
    above : (L M H : ℤ) (a b : ℕ) (y : ℤ) → y ≡ pos a -ℤ pos b → H ≡ L +ℤ y → b ≤ a → L ≤ℤ larger M H
    above L M H a b y e d h = let r = larger_right M H in omega (arith, ints)
no_worse (negsuc n) L M H P B p f g e d =
    let m = mul-le-mul_left (suc n) f in
    above L M H (suc n * (p + B)) (suc n * P) (negsuc n *ℤ (low P B -ℤ pos p))
    (ap (λ (y : ℤ). negsuc n *ℤ y) (to_low p P B) ∙ times_diff_neg (suc n) P (p + B)) e (omega arith)
  where
    above : (L M H : ℤ) (a b : ℕ) (y : ℤ) → y ≡ pos a -ℤ pos b → M ≡ L +ℤ y → b ≤ a → L ≤ℤ larger M H
    above L M H a b y e d h = let r = larger_left M H in omega (arith, ints)
