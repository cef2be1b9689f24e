-- What the program's values say: each as one of the plain market's own. Assumes nothing: these are definitions.
use Rattle.std.specs.Prelude.{ℕ, Bool, map, ℤ, vec_items}
use Rattle.venue.specs.World as world
use Rattle.wire.specs.Means.{side_of, item_of}
use Rattle.reference.specs.declared.limits.Limits.{Limits}
use Rattle.reference.specs.declared.market.Order.{Order}
use Rattle.reference.specs.declared.market.Position.{Position}
use Rattle.reference.specs.declared.market.Account.{Account}
use Rattle.reference.specs.declared.market.Market.{Market}

abbrev pub order_of : Order → world.Order
order_of o = record { number = o.number; account = o.account; item = o.item; side = side_of o.side; price = o.price; left = o.left }

abbrev pub held_of : Position → ℤ
held_of p = p.held

abbrev pub account_of : Account → world.Account
account_of x = record { cash = x.cash; holds = map held_of (vec_items x.positions) }

abbrev pub world_of : Market → world.World
world_of m =
    record {
      items = map item_of (vec_items m.items);
      accounts = map account_of (vec_items m.accounts);
      orders = map order_of (vec_items m.orders);
      next = m.next;
      money = m.money;
      trading = m.trading;
    }

-- the program's limits with the kinds of messages that it has; a holding never passes 2^31 either way
abbrev pub limits_of : Limits → (ℕ → Bool) → world.Limits
limits_of z kinds = record { orders = z.orders; money = z.money; holding = 2147483648; built = kinds }
