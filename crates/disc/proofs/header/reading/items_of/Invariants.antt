use Rattle.std.proofs.Common.{◌≡◌, map}
use Rattle.wire.specs.Means.{item_of}
use Rattle.disc.specs.Block0.{items_from}
use Rattle.disc.specs.Few.{few_items}
use Rattle.disc.proofs.header.reading.items_of.Given as goal

abbrev pub invariant-loop-k : goal.invariant-loop-k
invariant-loop-k l = map item_of (few_items l.items) ≡ items_from l.bytes 24 l.k
