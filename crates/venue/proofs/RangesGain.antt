-- How large a gain or loss at the day's end can be, and every partial sum of it.
use Rattle.std.proofs.Common.{◌≡◌, ℕ, suc, ◌+◌, ◌*◌, ◌<◌, ◌≤◌, true, List, ◌∷◌, length, take, ℤ, pos, negsuc, ◌+ℤ◌, ◌-ℤ◌, ◌*ℤ◌, mul-le-mul_right, mul-le-mul_left, arith, rules}
use Rattle.std.specs.List.{AllByRecursion}
use Rattle.std.proofs.lemmas.Int.{ints}
use Rattle.std.proofs.lemmas.Bool.Decides.{nat_tests}
use Rattle.venue.proofs.Ints.{times_diff, times_diff_neg}
use Rattle.venue.proofs.Picks.{abs_is, abs_pos}
use Rattle.venue.specs.Ranges.{ItemRange, Ranged}
use Rattle.venue.specs.World.{Account, Item, World, abs, account, gain, held, prices_fit}

abs_sum : (a b : ℤ) → abs (a +ℤ b) ≤ abs a + abs b
abs_sum a b = rw (abs_is (a +ℤ b), abs_is a, abs_is b) (omega (arith, ints))

between : (z : ℤ) (m n d : ℕ) → z ≡ pos m -ℤ pos n → m ≤ n + d → n ≤ m + d → abs z ≤ d
between z m n d e f g = rw (abs_is z) (omega (arith, ints))

-- a holding times a price's change within the band
change_le : (h : ℤ) (p q b : ℕ) → q ≤ p + b → p ≤ q + b → abs (h *ℤ (pos p -ℤ pos q)) ≤ abs h * b
change_le (pos a) p q b f g =
    rw (abs_pos a) (between (pos a *ℤ (pos p -ℤ pos q)) (a * p) (a * q) (a * b) (times_diff a p q)
    (omega (arith, mul-le-mul_left a g)) (omega (arith, mul-le-mul_left a f)))
change_le (negsuc a) p q b f g =
    rw (abs_is (negsuc a)) (between (negsuc a *ℤ (pos p -ℤ pos q)) (suc a * q) (suc a * p) (suc a * b) (times_diff_neg (suc a) p q)
    (omega (arith, mul-le-mul_left (suc a) f)) (omega (arith, mul-le-mul_left (suc a) g)))

one_gain_le : (h : ℤ) (p q b m : ℕ) → q ≤ p + b → p ≤ q + b → b ≤ 1000000 → abs h ≤ m → abs (h *ℤ (pos p -ℤ pos q)) ≤ m * 1000000
one_gain_le h p q b m f g c l =
    let t = change_le h p q b f g in
    let r = mul-le-mul_left (abs h) c in
    let s = mul-le-mul_right 1000000 l in
    omega arith

-- the sum over the first j items
pub gain_front_le : (j k : ℕ) (is : List Item) (ps bs : List ℕ) (x : Account) (m : ℕ) → AllByRecursion ItemRange is → prices_fit is ps bs ≡ true →
    ((i : ℕ) → abs (held x i) ≤ m) → abs (gain k (take j is) (take j ps) x) ≤ j * (m * 1000000)
unfolding gain prices_fit
gain_front_le (suc j) k (i ∷ is) (p ∷ ps) (b ∷ bs) x m r e f =
    let t : prices_fit is ps bs ≡ true = grind arith in
    let g : (i.price ≤ p + i.band) × (p ≤ i.price + i.band) = grind (arith, nat_tests) in
    let c : i.band ≤ 1000000 = omega (arith, r.0.price, r.0.band_high) in
    let q = one_gain_le (held x k) p i.price i.band m g.0 g.1 c (f k) in
    let s = gain_front_le j (suc k) is ps bs x m r.1 t f in
    let a = abs_sum (held x k *ℤ (pos p -ℤ pos i.price)) (gain (suc k) (take j is) (take j ps) x) in
    omega arith
gain_front_le j k is ps bs x m r e f = search (rules, abs_pos)

-- 256 items, and 2 ^ 31 of each
pub gain_range : (w : World) (a j : ℕ) (ps bs : List ℕ) → j ≤ 256 → Ranged w → a < length w.accounts → prices_fit w.items ps bs ≡ true →
    abs (gain 0 (take j w.items) (take j ps) (account w a)) ≤ 549755813888000000
gain_range w a j ps bs n r h e =
    let t = gain_front_le j 0 w.items ps bs (account w a) 2147483648 r.items e (λ k. r.held a k h) in
    let q = mul-le-mul_right 2147483648000000 n in
    omega arith
