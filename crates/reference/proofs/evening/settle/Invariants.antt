use Rattle.std.proofs.Common.{◌≡◌, map, length, vec_items, vec_len}
use Rattle.venue.specs.World.{paid}
use Rattle.wire.specs.Means.{column, item_of}
use Rattle.reference.specs.Means.{account_of}
use Rattle.reference.proofs.Refill.{refilled}
use Rattle.reference.proofs.evening.settle.Given as goal

-- those before a have been paid, the others not yet
abbrev pub invariant-loop-account : goal.invariant-loop-account
invariant-loop-account l =
    (map account_of l.account-items ≡
    refilled (paid (map item_of l.items) (column l.bytes l.at (length l.items)) (map account_of (vec_items l.fn.accounts)))
    (map account_of (vec_items l.fn.accounts)) l.account-index)
    × (length l.account-items ≡ vec_len l.fn.accounts)
