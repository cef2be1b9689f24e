-- A message that places an order, by what is asked of it.
use Rattle.std.proofs.Common.{◌≡◌, ℕ, ◌+◌, ◌<◌, Bool, true, false, ◌&&◌, ltb, leb, [], ◌∷◌, ◌++◌, length, refl, ap, add-one, arith}
use Rattle.std.proofs.lemmas.Bool.Decides.{nat_tests}
use Rattle.venue.specs.Turn.{may_place}
use Rattle.venue.specs.World.{World, Limits, Side, pick, item, account, held, abs, standing, covered, new_order, counted, says_it, place, done, no}
use Rattle.reference.specs.Means.{world_of}
use Rattle.reference.specs.Parts.{after, filled, well_formed}
use Rattle.reference.specs.declared.market.Market.{Market}

and_four : (x y z u : Bool) → (x && (y && (z && u))) ≡ ((x && (y && z)) && u)
and_four true true z u = refl
and_four true false z u = refl
and_four false y z u = refl

pub record Well (z : Limits) (w : World) (a k q : ℕ) : Type 0 where
  pub account_in : a < length w.accounts
  pub item_in : k < length w.items
  pub room : length w.orders < z.orders
  pub number : w.next < 9223372036854775808

module _ (z : Limits) (w : World) (a k p q : ℕ) where
  pub well_tells : well_formed z w a k p q ≡ true → Well z w a k q
  well_tells e = record {
    account_in = grind (arith, nat_tests);
    item_in = grind (arith, nat_tests);
    room = grind (arith, nat_tests);
    number = grind
        (arith, nat_tests);
  }

  module _ (s : Side) where
    pub may_is : may_place z w a k s p q ≡
        (well_formed z w a k p q && (leb (abs (held (account w a) k) + standing a k w.orders + q) z.holding && covered w a
        (w.orders ++ new_order w a k s p q ∷ [])))
    may_is =
        and_four (w.trading && (ltb a (length w.accounts) && ltb k (length w.items)))
        ((leb 1 q && leb q 1000000) && (leb (item w k).price (p + (item w k).band) && leb p ((item w k).price + (item w k).band)))
        (ltb (length w.orders) z.orders && ltb w.next 9223372036854775808)
        (leb (abs (held (account w a) k) + standing a k w.orders + q) z.holding && covered w a (w.orders ++ new_order w a k s p q ∷ []))

    pub not_placed : may_place z w a k s p q ≡ false → says_it z w (place a k s p q) ≡ (w, no ∷ [])
    unfolding says_it after filled counted
    not_placed e = ap (λ b. pick b (after (done w.next ∷ []) (filled (counted w) (new_order w a k s p q))) (w, no ∷ [])) e

    pub placed : may_place z w a k s p q ≡ true →
        says_it z w (place a k s p q) ≡ after (done w.next ∷ []) (filled (counted w) (new_order w a k s p q))
    unfolding says_it after filled counted
    placed e = ap (λ b. pick b (after (done w.next ∷ []) (filled (counted w) (new_order w a k s p q))) (w, no ∷ [])) e

-- a market whose next number is counted up
pub counted_is : (m : Market) (w : World) → world_of m ≡ w →
    record {
      items = (world_of m).items;
      accounts = (world_of m).accounts;
      orders = (world_of m).orders;
      next = m.next + 1;
      money = m.money;
      trading = m.trading;
    } ≡ counted w
unfolding counted
counted_is m w e = rw add-one (ap counted e)
