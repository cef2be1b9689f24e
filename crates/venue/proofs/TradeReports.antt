-- How many trades one order makes: at most as many as orders stood, since each but the last uses one up.
use Rattle.std.proofs.Common.{◌≡◌, ℕ, zero, suc, ◌≤◌, length, arith, rules}
use Rattle.venue.proofs.Carrying.{orders_traded}
use Rattle.venue.proofs.Orders.{one_less}
use Rattle.venue.specs.World.{Order, World, less_left, matched}

none_left_none : (f : ℕ) (w : World) (o : Order) → o.left ≡ 0 → length (matched f w o).1 ≡ 0
unfolding matched
none_left_none f w o e = search rules

pub trades_le : (f : ℕ) (w : World) (o : Order) → length (matched f w o).1 ≤ length w.orders
unfolding matched less_left
trades_le zero w o = omega arith
trades_le (suc f) w o = search (rules, trades_le f, none_left_none, orders_traded, one_less)
