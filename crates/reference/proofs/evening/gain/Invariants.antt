use Rattle.std.proofs.Common.{◌≡◌, ◌*◌, map, length, drop, ◌+ℤ◌}
use Rattle.venue.specs.World as world
use Rattle.wire.specs.Means.{column, item_of}
use Rattle.reference.specs.Means.{account_of}
use Rattle.reference.specs.Conditions.{Within}
use Rattle.reference.proofs.Settled.{rest}
use Rattle.reference.proofs.evening.gain.Given as goal

abbrev pub invariant-loop-k : goal.invariant-loop-k
invariant-loop-k l =
    (goal.iterator-loop-k).can_next l.k-iterator × (goal.iterator-loop-k).is_finite l.k-iterator
    × (l.sum +ℤ world.gain (length l.yielded) (map item_of (drop (length l.yielded) l.items)) (rest l.bytes l.at (length l.items) (length l.yielded))
    (account_of l.account) ≡
    world.gain 0 (map item_of l.items) (column l.bytes l.at (length l.items)) (account_of l.account))
    × Within (39614081257132168796771975168 * length l.yielded) l.sum
