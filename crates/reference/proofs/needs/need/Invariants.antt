use Rattle.std.proofs.Common.{◌≡◌, ◌*◌, map, length, drop, ◌+ℤ◌}
use Rattle.venue.specs.World.{need_from}
use Rattle.wire.specs.Means.{item_of}
use Rattle.reference.specs.Means.{order_of, account_of}
use Rattle.reference.specs.Conditions.{Within}
use Rattle.reference.proofs.needs.need.Given as goal

abbrev pub invariant-loop-k : goal.invariant-loop-k
invariant-loop-k l =
    (goal.iterator-loop-k).can_next l.k-iterator × (goal.iterator-loop-k).is_finite l.k-iterator
    × (l.sum +ℤ need_from l.account (length l.yielded) (map item_of (drop (length l.yielded) l.items)) (account_of l.of) (map order_of l.orders) ≡
    need_from l.account 0 (map item_of l.items) (account_of l.of) (map order_of l.orders))
    × Within (633825300114114700748351602688 * length l.yielded) l.sum
