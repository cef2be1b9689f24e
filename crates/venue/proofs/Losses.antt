-- What a trade does to the most that can be lost in one item: it never raises it by more than the money that the trade brings.
use Rattle.std.proofs.Common.{◌≡◌, ℕ, ◌+◌, ◌-◌, ◌*◌, ◌≤◌, ℤ, pos, ◌+ℤ◌, ◌-ℤ◌, ◌*ℤ◌, neg_ℤ, ◌≤ℤ◌, ap, ◌∙◌, mul-le-mul_left, arith}
use Rattle.std.proofs.lemmas.Int.{ints}
use Rattle.venue.proofs.Ints.{dist_r, neg_l, times_diff, times_diff_neg}
use Rattle.venue.proofs.Picks.{larger_left, larger_right, larger_within}
use Rattle.venue.specs.World.{larger}

-- a purchase and a sale, with products as unknowns
bought_linear : (H H' D : ℤ) (xB xp xP r b s : ℕ) → H' ≡ H +ℤ pos xB → D ≡ pos xp -ℤ pos xP → xp + xB ≤ r + xP → xp ≤ xP + xB →
    larger (H' +ℤ pos b) (neg_ℤ H' +ℤ pos s) ≤ℤ (larger (H +ℤ pos (r + b)) (neg_ℤ H +ℤ pos s) -ℤ D)
bought_linear H H' D xB xp xP r b s e d f g =
    let l = larger_left (H +ℤ pos (r + b)) (neg_ℤ H +ℤ pos s) in
    let m = larger_right (H +ℤ pos (r + b)) (neg_ℤ H +ℤ pos s) in
    larger_within _ _ _ (omega (arith, ints)) (omega (arith, ints))

sold_linear : (H H' D : ℤ) (xB xp xP r b s : ℕ) → H' ≡ H -ℤ pos xB → D ≡ pos xP -ℤ pos xp → xP + xB ≤ r + xp → xP ≤ xp + xB →
    larger (H' +ℤ pos b) (neg_ℤ H' +ℤ pos s) ≤ℤ (larger (H +ℤ pos b) (neg_ℤ H +ℤ pos (r + s)) -ℤ D)
sold_linear H H' D xB xp xP r b s e d f g =
    let l = larger_left (H +ℤ pos b) (neg_ℤ H +ℤ pos (r + s)) in
    let m = larger_right (H +ℤ pos b) (neg_ℤ H +ℤ pos (r + s)) in
    larger_within _ _ _ (omega (arith, ints)) (omega (arith, ints))

-- x bought for p by an order of price q, with P the item's price and B its band
pub bought : (h : ℤ) (x p q P B b s : ℕ) → p ≤ q → p ≤ P + B →
    larger (((h +ℤ pos x) *ℤ pos B) +ℤ pos b) (neg_ℤ ((h +ℤ pos x) *ℤ pos B) +ℤ pos s)
    ≤ℤ (larger ((h *ℤ pos B) +ℤ pos (x * ((q + B) - P) + b)) (neg_ℤ (h *ℤ pos B) +ℤ pos s) -ℤ (pos x *ℤ (pos p -ℤ pos P)))
bought h x p q P B b s f g =
    bought_linear (h *ℤ pos B) ((h +ℤ pos x) *ℤ pos B) (pos x *ℤ (pos p -ℤ pos P)) (x * B) (x * p) (x * P) (x * ((q + B) - P)) b s
    (dist_r h (pos x) (pos B)) (times_diff x p P)
    (let t : p + B ≤ ((q + B) - P) + P = omega arith in omega (arith, mul-le-mul_left x t)) (omega (arith, mul-le-mul_left x g))

-- x sold for p by an order of price q
pub sold : (h : ℤ) (x p q P B b s : ℕ) → q ≤ p → P ≤ p + B →
    larger (((h +ℤ neg_ℤ (pos x)) *ℤ pos B) +ℤ pos b) (neg_ℤ ((h +ℤ neg_ℤ (pos x)) *ℤ pos B) +ℤ pos s)
    ≤ℤ (larger ((h *ℤ pos B) +ℤ pos b) (neg_ℤ (h *ℤ pos B) +ℤ pos (x * ((P + B) - q) + s)) -ℤ (neg_ℤ (pos x) *ℤ (pos p -ℤ pos P)))
sold h x p q P B b s f g =
    sold_linear (h *ℤ pos B) ((h +ℤ neg_ℤ (pos x)) *ℤ pos B) (neg_ℤ (pos x) *ℤ (pos p -ℤ pos P)) (x * B) (x * p) (x * P) (x * ((P + B) - q)) b s
    (dist_r h (neg_ℤ (pos x)) (pos B) ∙ ap (λ (z : ℤ). (h *ℤ pos B) +ℤ z) (neg_l (pos x) (pos B))) (times_diff_neg x p P)
    (let t : P + B ≤ ((P + B) - q) + p = omega arith in omega (arith, mul-le-mul_left x t)) (omega (arith, mul-le-mul_left x g))
