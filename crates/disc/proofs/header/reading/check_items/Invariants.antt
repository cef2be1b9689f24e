use Rattle.std.proofs.Common.{◌≡◌, ◌+◌, ◌-◌, ◌*◌}
use Rattle.disc.specs.Block0.{bad_item}
use Rattle.disc.proofs.header.reading.check_items.Given as goal

abbrev pub invariant-loop-k : goal.invariant-loop-k
invariant-loop-k l = bad_item l.bytes (24 + 8 * l.k) (l.count - l.k) ≡ bad_item l.bytes 24 l.count
