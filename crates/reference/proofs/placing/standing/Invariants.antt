use Rattle.std.proofs.Common.{◌≡◌, ◌+◌, ◌*◌, ◌≤◌, map, drop}
use Rattle.venue.specs.World as world
use Rattle.reference.specs.Means.{order_of}
use Rattle.reference.proofs.placing.standing.Given as goal

abbrev pub invariant-loop-o : goal.invariant-loop-o
invariant-loop-o l =
    (l.sum + world.standing l.account l.item (map order_of (drop l.o-index l.orders)) ≡ world.standing l.account l.item
    (map order_of l.orders))
    × (l.sum ≤ 4294967295 * l.o-index)
