-- What an account loses in one item: never more than it needs there, and in the worst case just that.
use Rattle.std.proofs.Common.{◌≡◌, ℕ, ◌≤◌, true, false, ◌&&◌, eqb, List, [], ◌∷◌, ℤ, pos, ◌+ℤ◌, ◌-ℤ◌, ◌*ℤ◌, neg_ℤ, ◌≤ℤ◌, arith, rules}
use lib.Signed.{lt_z}
use Rattle.std.specs.List.{AllByRecursion}
use Rattle.std.proofs.lemmas.Int.{ints}
use Rattle.venue.proofs.Ints.{dist_r}
use Rattle.venue.proofs.Picks.{larger_left, larger_right, larger_within}
use Rattle.venue.proofs.Worst.{high, low, no_worse, rate, rate_held, rate_order}
use Rattle.venue.specs.Loss.{Course, lost_by}
use Rattle.venue.specs.Priority.{AsGood}
use Rattle.venue.specs.Settlement.{InBand}
use Rattle.venue.specs.World.{Item, Order, buys, is_buy, larger, need_in, pick, sells}
use Rattle.venue.proofs.Ends.{Banded, high_is, lost_high, lost_low, low_is}

-- two rates together
add_rates : (l m l' m' r r' d : ℤ) → l ≡ m +ℤ (r *ℤ d) → l' ≡ m' +ℤ (r' *ℤ d) → l +ℤ l' ≡ (m +ℤ m') +ℤ ((r +ℤ r') *ℤ d)
add_rates l m l' m' r r' d e f = omega (arith, ints, dist_r r r' d)

sum_is : {a b c d : ℤ} → a ≡ b → c ≡ d → a +ℤ c ≡ b +ℤ d
sum_is e f = cc

larger_second : (a b : ℤ) → lt_z a b ≡ true → larger a b ≡ b
unfolding larger
larger_second a b e = rw e

larger_first : (a b : ℤ) → lt_z a b ≡ false → larger a b ≡ a
unfolding larger
larger_first a b e = rw e

module _ (a k : ℕ) (i : Item) (y : Course) where
  -- the rate of all orders together
  rates : List Order → ℤ
  rates [] = pos 0
  rates (o ∷ os) = pick (eqb o.account a && eqb o.item k) (rate o.side (y.much o)) (pos 0) +ℤ rates os

  rates_are : (os : List Order) (p q : ℤ) → lost_by a k y q os ≡ lost_by a k y p os +ℤ (rates os *ℤ (q -ℤ p))
  unfolding lost_by rates
  rates_are [] p q = omega (arith, ints)
  rates_are (o ∷ os) p q = search (rules, add_rates, rate_order, rates_are os p q)

  -- what is lost in the item when the day ends at p
  abbrev pub loss : ℤ → ℤ → List Order → ℤ
  loss h p os = (h *ℤ (pos i.price -ℤ p)) +ℤ lost_by a k y p os

  loss_rate : (h : ℤ) (os : List Order) (p q : ℤ) → loss h q os ≡ loss h p os +ℤ ((neg_ℤ h +ℤ rates os) *ℤ (q -ℤ p))
  loss_rate h os p q = search (rules, add_rates, rate_held, rates_are)

  -- a holding's loss at both ends
  held_low : (h : ℤ) → h *ℤ (pos i.price -ℤ low i.price i.band) ≡ h *ℤ pos i.band
  held_low h = search rules

  held_high : (h : ℤ) → h *ℤ (pos i.price -ℤ high i.price i.band) ≡ neg_ℤ (h *ℤ pos i.band)
  held_high h = grind (arith, ints)

  pub item_enough : (h : ℤ) (p : ℕ) (os : List Order) → ((o : Order) → y.much o ≤ o.left) → ((o : Order) → AsGood o.side (y.at o) o.price) →
      AllByRecursion (Banded k i) os → InBand i p → loss h (pos p) os ≤ℤ need_in a k i h os
  unfolding need_in
  item_enough h p os f g b v =
      let n = no_worse (neg_ℤ h +ℤ rates os) (loss h (pos p) os) _ _ i.price i.band p v.low v.high
      (loss_rate h os (pos p) (low i.price i.band)) (loss_rate h os (pos p) (high i.price i.band)) in
      linear (loss h (pos p) os) (h *ℤ pos i.band) _ _ (lost_by a k y (low i.price i.band) os)
      (lost_by a k y (high i.price i.band) os) _ _ (held_low h) (held_high h) (lost_low a k i y os f g b) (lost_high a k i y os f g b) n
    where
      linear : (L H hl hh ll lh b s : ℤ) → hl ≡ H → hh ≡ neg_ℤ H → ll ≤ℤ b → lh ≤ℤ s → L ≤ℤ larger (hl +ℤ ll) (hh +ℤ lh) →
          L ≤ℤ larger (H +ℤ b) (neg_ℤ H +ℤ s)
      linear L H hl hh ll lh b s e d f g n =
          let l = larger_left (H +ℤ b) (neg_ℤ H +ℤ s) in
          let r = larger_right (H +ℤ b) (neg_ℤ H +ℤ s) in
          let w = larger_within (hl +ℤ ll) (hh +ℤ lh) (larger (H +ℤ b) (neg_ℤ H +ℤ s)) (omega (arith, ints)) (omega (arith, ints)) in
          omega (arith, ints, n, w)

  -- carried out so as to lose most, at the end where that is more
  pub reached_high : (h : ℤ) (os : List Order) → ((o : Order) → o.item ≡ k → y.much o ≡ pick (is_buy o.side) 0 o.left) →
      ((o : Order) → y.at o ≡ o.price) → AllByRecursion (Banded k i) os →
      lt_z ((h *ℤ pos i.band) +ℤ pos (buys a k i os)) (neg_ℤ (h *ℤ pos i.band) +ℤ pos (sells a k i os)) ≡ true →
      loss h (high i.price i.band) os ≡ need_in a k i h os
  unfolding need_in
  reached_high h os f g b t = search (rules, held_high, high_is, larger_second)

  pub reached_low : (h : ℤ) (os : List Order) → ((o : Order) → o.item ≡ k → y.much o ≡ pick (is_buy o.side) o.left 0) →
      ((o : Order) → y.at o ≡ o.price) → AllByRecursion (Banded k i) os →
      lt_z ((h *ℤ pos i.band) +ℤ pos (buys a k i os)) (neg_ℤ (h *ℤ pos i.band) +ℤ pos (sells a k i os)) ≡ false →
      loss h (low i.price i.band) os ≡ need_in a k i h os
  unfolding need_in
  reached_low h os f g b t = search (rules, sum_is, low_is, larger_first)
