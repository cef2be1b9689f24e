use Rattle.std.proofs.Common.{◌≡◌, ◌+◌, ◌*◌, ◌^◌, ◌≤◌, map, drop}
use Rattle.venue.specs.World.{buys, sells}
use Rattle.wire.specs.Means.{item_of}
use Rattle.reference.specs.Means.{order_of}
use Rattle.reference.proofs.needs.losses_of.Given as goal

abbrev pub invariant-loop-o : goal.invariant-loop-o
invariant-loop-o l =
    (l.buys + buys l.account l.item (item_of l.at) (map order_of (drop l.o-index l.orders)) ≡
    buys l.account l.item (item_of l.at) (map order_of l.orders))
    × (l.sells + sells l.account l.item (item_of l.at) (map order_of (drop l.o-index l.orders)) ≡
    sells l.account l.item (item_of l.at) (map order_of l.orders))
    × (l.buys ≤ 2 ^ 65 * l.o-index)
    × (l.sells ≤ 2 ^ 65 * l.o-index)
