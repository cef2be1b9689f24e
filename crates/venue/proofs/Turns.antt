-- The turns of `matched`: what holds at its start, after each trade, and at its end.
use Rattle.std.proofs.Common.{◌≡◌, ℕ, ◌+◌, ◌<◌, ◌≤◌, true, [], ◌∷◌, ◌++◌, length, ⊎_elim, arith, rules}
use Rattle.std.proofs.lemmas.Int.{ints}
use Rattle.std.proofs.lemmas.Bool.{cases_eq}
use Rattle.venue.proofs.Margins.{other_need}
use Rattle.venue.proofs.Released.{standing_push}
use Rattle.venue.specs.Invariant.{Cover, Inv, Within}
use Rattle.venue.specs.Turn.{Turn, may_place}
use Rattle.venue.specs.World.{Limits, Order, Side, World, abs, account, counted, covered, held, item, need, new_order, standing}

-- what the test of a new order tells
pub record Tells (z : Limits) (w : World) (a k : ℕ) (s : Side) (p q : ℕ) : Type 0 where
  pub trading : w.trading ≡ true
  pub account_in : a < length w.accounts
  pub item_in : k < length w.items
  pub some : 1 ≤ q
  pub most : q ≤ 1000000
  pub low : (item w k).price ≤ p + (item w k).band
  pub high : p ≤ (item w k).price + (item w k).band
  pub room : length w.orders < z.orders
  pub number : w.next < 9223372036854775808
  pub holding : abs (held (account w a) k) + standing a k w.orders + q ≤ z.holding
  pub cover : covered w a (w.orders ++ new_order w a k s p q ∷ []) ≡ true

pub place_tells : (z : Limits) (w : World) (a k : ℕ) (s : Side) (p q : ℕ) → may_place z w a k s p q ≡ true → Tells z w a k s p q
place_tells z w a k s p q e = search rules

cover_new : (w : World) (o : Order) → Cover w w.orders → covered w o.account (w.orders ++ o ∷ []) ≡ true →
    Cover (counted w) (w.orders ++ o ∷ [])
unfolding covered counted need account
cover_new w o v e c l =
    ⊎_elim (λ (q : c ≡ o.account). rw q (omega (arith, ints)))
    (λ (q : c ≡ o.account → ⊥). let x = other_need w c w.orders o q in omega (arith, ints, v c l)) (cases_eq c o.account)

pub within_new : (H : ℕ) (w : World) (o : Order) → Within H w w.orders →
    abs (held (account w o.account) o.item) + standing o.account o.item w.orders + o.left ≤ H →
    Within H (counted w) (w.orders ++ o ∷ [])
unfolding counted account
within_new H w o v h c k l = search (rules, standing_push)

pub turn_starts : (z : Limits) (w : World) (a k : ℕ) (s : Side) (p q : ℕ) → Inv z w → may_place z w a k s p q ≡ true →
    Turn z (counted w) (new_order w a k s p q)
unfolding new_order counted item
turn_starts z w a k s p q i e =
    let t = place_tells z w a k s p q e in
    let c = cover_new w (new_order w a k s p q) (i.cover t.trading) t.cover in
    let h = within_new z.holding w (new_order w a k s p q) i.holds t.holding in
    search (rules, c, h)
