-- A trade by its three steps.
use Rattle.std.proofs.Common.{◌≡◌, ℕ, Bool, true, false, not, ℤ, pos, neg_ℤ, refl, ◌∙◌}
use Rattle.venue.specs.World.{World, Order, pick, is_buy, gets, traded, taken, with_orders}

ways : (b : Bool) (w : World) (a k q p : ℕ) (x y : ℤ) →
    gets (gets w a k (pick b x y) p) q k (pick (not b) x y) p ≡ pick b (gets (gets w a k x p) q k y p) (gets (gets w a k y p) q k x p)
ways true w a k q p x y = refl
ways false w a k q p x y = refl

pub traded_is : (w w₁ w₂ w₃ : World) (o r : Order) (j x : ℕ) → w₁ ≡ with_orders w (taken j x w.orders) →
    w₂ ≡ gets w₁ o.account o.item (pick (is_buy o.side) (pos x) (neg_ℤ (pos x))) r.price →
    w₃ ≡ gets w₂ r.account o.item (pick (not (is_buy o.side)) (pos x) (neg_ℤ (pos x))) r.price →
    w₃ ≡ traded w o r j x
unfolding traded
traded_is w w₁ w₂ w₃ o r j x e₁ e₂ e₃ =
    let g = ways (is_buy o.side) (with_orders w (taken j x w.orders)) o.account o.item r.account r.price (pos x) (neg_ℤ (pos x)) in
    e₃ ∙ rw (e₂, e₁) g
