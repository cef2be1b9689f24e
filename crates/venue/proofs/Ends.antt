-- What account a's orders in an item lose at both ends of the band.
use Rattle.std.proofs.Common.{◌≡◌, ℕ, ◌+◌, ◌≤◌, eqb, List, [], ◌∷◌, pos, ◌≤ℤ◌, refl, arith, rules}
use Rattle.std.specs.List.{AllByRecursion}
use Rattle.std.proofs.lemmas.Int.{ints}
use Rattle.std.proofs.lemmas.Bool.{eqb-true}
use Rattle.venue.proofs.Worst.{high, low, order_high, order_high_is, order_low, order_low_is}
use Rattle.venue.specs.Loss.{Course, lost_by}
use Rattle.venue.specs.Priority.{AsGood}
use Rattle.venue.specs.World.{Item, Order, buys, is_buy, pick, sells}

-- an order in item k has a price within i's band
abbrev pub Banded : ℕ → Item → Order → Type 0
Banded k i o = o.item ≡ k → (i.price ≤ o.price + i.band) × (o.price ≤ i.price + i.band)

module _ (a k : ℕ) (i : Item) (y : Course) where
  pub lost_low : (os : List Order) → ((o : Order) → y.much o ≤ o.left) → ((o : Order) → AsGood o.side (y.at o) o.price) →
      AllByRecursion (Banded k i) os → lost_by a k y (low i.price i.band) os ≤ℤ pos (buys a k i os)
  unfolding lost_by buys
  lost_low [] f g b = omega (arith, ints)
  lost_low (o ∷ os) f g b =
      let r = lost_low os f g b.1 in
      let q = order_low (eqb o.account a) (eqb o.item k) o.side (y.much o) o.left (y.at o) o.price i.price i.band (f o) (g o)
      (λ e. (b.0 (eqb-true o.item k e)).0) in
      omega (arith, ints)

  pub lost_high : (os : List Order) → ((o : Order) → y.much o ≤ o.left) → ((o : Order) → AsGood o.side (y.at o) o.price) →
      AllByRecursion (Banded k i) os → lost_by a k y (high i.price i.band) os ≤ℤ pos (sells a k i os)
  unfolding lost_by sells
  lost_high [] f g b = omega (arith, ints)
  lost_high (o ∷ os) f g b =
      let r = lost_high os f g b.1 in
      let q = order_high (eqb o.account a) (eqb o.item k) o.side (y.much o) o.left (y.at o) o.price i.price i.band (f o) (g o)
      (λ e. (b.0 (eqb-true o.item k e)).1) in
      omega (arith, ints)

  pub low_is : (os : List Order) → ((o : Order) → o.item ≡ k → y.much o ≡ pick (is_buy o.side) o.left 0) → ((o : Order) → y.at o ≡ o.price) →
      AllByRecursion (Banded k i) os → lost_by a k y (low i.price i.band) os ≡ pos (buys a k i os)
  unfolding lost_by buys
  low_is [] f g b = refl
  low_is (o ∷ os) f g b = search (rules, order_low_is, low_is os f g b.1)

  pub high_is : (os : List Order) → ((o : Order) → o.item ≡ k → y.much o ≡ pick (is_buy o.side) 0 o.left) → ((o : Order) → y.at o ≡ o.price) →
      AllByRecursion (Banded k i) os → lost_by a k y (high i.price i.band) os ≡ pos (sells a k i os)
  unfolding lost_by sells
  high_is [] f g b = refl
  high_is (o ∷ os) f g b = search (rules, order_high_is, high_is os f g b.1)
