-- What an account loses by the day's end is at most what it needed.
use Rattle.std.proofs.Common.{◌≡◌, ℕ, suc, ◌+◌, ◌*◌, ◌≤◌, true, List, ◌∷◌, ℤ, pos, negsuc, ◌+ℤ◌, ◌-ℤ◌, ◌*ℤ◌, neg_ℤ, ◌≤ℤ◌, refl, ap, mul-le-mul_left, arith, rules}
use Rattle.std.proofs.lemmas.Int.{ints}
use Rattle.std.proofs.lemmas.Bool.Decides.{nat_tests}
use Rattle.venue.proofs.Ints.{times_diff, times_diff_neg}
use Rattle.venue.proofs.Picks.{larger_left, larger_right}
use Rattle.venue.specs.World.{Account, Item, Order, buys, gain, held, larger, need_from, need_in, prices_fit, sells}

-- with products as unknowns: for one that holds, and for one that owes
gain_linear : (H D : ℤ) (aB ap aP b s : ℕ) → H ≡ pos aB → D ≡ pos ap -ℤ pos aP → aP ≤ ap + aB →
    pos 0 ≤ℤ (larger (H +ℤ pos b) (neg_ℤ H +ℤ pos s) +ℤ D)
gain_linear H D aB ap aP b s e d f = let l = larger_left (H +ℤ pos b) (neg_ℤ H +ℤ pos s) in omega (arith, ints)

gain_linear_neg : (H D : ℤ) (aB ap aP b s : ℕ) → H ≡ neg_ℤ (pos aB) → D ≡ pos aP -ℤ pos ap → ap ≤ aP + aB →
    pos 0 ≤ℤ (larger (H +ℤ pos b) (neg_ℤ H +ℤ pos s) +ℤ D)
gain_linear_neg H D aB ap aP b s e d f = let l = larger_right (H +ℤ pos b) (neg_ℤ H +ℤ pos s) in omega (arith, ints)

gain_in : (c k : ℕ) (i : Item) (h : ℤ) (os : List Order) (p : ℕ) → i.price ≤ p + i.band → p ≤ i.price + i.band →
    pos 0 ≤ℤ (need_in c k i h os +ℤ (h *ℤ (pos p -ℤ pos i.price)))
unfolding need_in
gain_in c k i (pos a) os p f g =
    gain_linear (pos a *ℤ pos i.band) (pos a *ℤ (pos p -ℤ pos i.price)) (a * i.band) (a * p) (a * i.price) (buys c k i os) (sells c k i os)
    refl (times_diff a p i.price) (omega (arith, mul-le-mul_left a f))
gain_in c k i (negsuc a) os p f g =
    gain_linear_neg (negsuc a *ℤ pos i.band) (negsuc a *ℤ (pos p -ℤ pos i.price)) (suc a * i.band) (suc a * p) (suc a * i.price)
    (buys c k i os) (sells c k i os) refl (times_diff_neg (suc a) p i.price) (omega (arith, mul-le-mul_left (suc a) g))

pub gain_from : (c k : ℕ) (is : List Item) (ps bs : List ℕ) (x : Account) (os : List Order) → prices_fit is ps bs ≡ true →
    pos 0 ≤ℤ (need_from c k is x os +ℤ gain k is ps x)
unfolding need_from gain prices_fit
gain_from c k (i ∷ is) (p ∷ ps) (b ∷ bs) x os e =
    let t : prices_fit is ps bs ≡ true = grind arith in
    let f : (i.price ≤ p + i.band) × (p ≤ i.price + i.band) = grind (arith, nat_tests) in
    omega (arith, ints, gain_in c k i (held x k) os p f.0 f.1, gain_from c (suc k) is ps bs x os t)
gain_from c k is ps bs x os e = search rules
