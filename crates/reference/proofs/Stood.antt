-- An order that stands behind all others for a while.
use Rattle.std.proofs.Common.{◌≡◌, ℕ, ◌-◌, ◌<◌, [], ◌∷◌, ◌++◌, length, take, sym, ap, ◌∙◌, subst, arith, length-append}
use Rattle.std.proofs.lemmas.List.{take-append-le, take_all}
use Rattle.venue.specs.World.{World, Order, account, covered, need, with_orders}
use Rattle.reference.specs.Conditions.{Fit}
use Rattle.reference.proofs.Room.{roomy_orders}

module _ (w v : World) (o : Order) (e : v ≡ with_orders w (w.orders ++ o ∷ [])) where
  pub stood_fit : length w.orders < 65536 → Fit w → Fit v
  unfolding with_orders
  stood_fit h f =
      subst Fit (sym e)
      (record {
        roomy = roomy_orders 1125899906842624 2147483648 w (w.orders ++ o ∷ []) f.roomy;
        orders = simp length-append (omega arith);
      })

  pub stood_covered : (a : ℕ) → covered v a v.orders ≡ covered w a (w.orders ++ o ∷ [])
  unfolding with_orders covered need account
  stood_covered a = rw e

  pub stood_gone : (u : World) → u ≡ with_orders v (take (length v.orders - 1) v.orders) → u ≡ w
  unfolding with_orders
  stood_gone u f =
      let n : length (w.orders ++ o ∷ []) - 1 ≡ length w.orders = simp length-append (omega arith) in
      let t : take (length (w.orders ++ o ∷ []) - 1) (w.orders ++ o ∷ []) ≡ w.orders =
      rw n (take-append-le (length w.orders) w.orders (o ∷ []) (omega arith) ∙ take_all (length w.orders) w.orders (omega arith)) in
      f ∙ rw e (ap (with_orders w) t)
