-- Where an order stands, and the orders without it.
use Rattle.std.proofs.Common.{◌≡◌, ℕ, zero, suc, ◌<◌, List, [], ◌∷◌, map, length, Some, None, refl, ap, arith}
use Rattle.std.proofs.lemmas.Bool.Decides.{nat_tests}
use Rattle.std.specs.List.{remove}
use Rattle.venue.specs.World.{World, Limits, without, says_it, cancel, done, no, with_orders}
use Rattle.reference.specs.Means.{order_of}
use Rattle.reference.specs.Parts.{found}
use Rattle.reference.specs.declared.market.Order.{Order}

pub without_removed : (os : List Order) (j : ℕ) → j < length os → without j (map order_of os) ≡ map order_of (remove os j)
unfolding without
without_removed [] j h = absurd (omega arith)
without_removed (o ∷ os) zero h = refl
without_removed (o ∷ os) (suc j) h = ap (λ rs. order_of o ∷ rs) (without_removed os j (omega arith))

pub stands_there : (w : World) (a n j : ℕ) → Some j ≡ found a n w.orders → j < length w.orders
unfolding found
stands_there w a n j e = grind (arith, nat_tests)

module _ (z : Limits) (w : World) (a n : ℕ) where
  pub not_cancelled : None ≡ found a n w.orders → says_it z w (cancel a n) ≡ (w, no ∷ [])
  unfolding says_it found
  not_cancelled e = grind (arith, nat_tests)

  pub cancelled : (j : ℕ) → Some j ≡ found a n w.orders →
      says_it z w (cancel a n) ≡ (with_orders w (without j w.orders), done 0 ∷ [])
  unfolding says_it found
  cancelled j e = grind (arith, nat_tests)
