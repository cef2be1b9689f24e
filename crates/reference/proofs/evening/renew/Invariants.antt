use Rattle.std.proofs.Common.{◌≡◌, ◌+◌, map, length, vec_items, vec_len}
use Rattle.venue.specs.World.{new_items}
use Rattle.wire.specs.Means.{column, item_of}
use Rattle.reference.proofs.Refill.{refilled}
use Rattle.reference.proofs.evening.renew.Given as goal

-- those before k are new, the others not yet
abbrev pub invariant-loop-k : goal.invariant-loop-k
invariant-loop-k l =
    (map item_of (l.item-items) ≡
    refilled (new_items (column l.bytes l.at (vec_len l.fn.items)) (column l.bytes (l.at + 4) (vec_len l.fn.items)))
    (map item_of (vec_items l.fn.items)) l.k)
    × (length l.item-items ≡ vec_len l.fn.items)
