use Rattle.std.proofs.Common.{◌≡◌, ◌+◌, map, length, drop}
use Rattle.venue.specs.World.{prices_fit}
use Rattle.wire.specs.Means.{column, item_of}
use Rattle.reference.proofs.Settled.{rest}
use Rattle.reference.proofs.evening.all_fit.Given as goal

abbrev pub invariant-loop-k : goal.invariant-loop-k
invariant-loop-k l =
    prices_fit (map item_of l.items) (column l.bytes l.at (length l.items)) (column l.bytes (l.at + 4) (length l.items)) ≡
    prices_fit (map item_of (drop l.k l.items)) (rest l.bytes l.at (length l.items) l.k)
    (rest l.bytes (l.at + 4) (length l.items) l.k)
