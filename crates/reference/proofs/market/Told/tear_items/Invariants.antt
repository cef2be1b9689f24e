use Rattle.std.proofs.Common.{length}
use Rattle.reference.specs.Means.{world_of}
use Rattle.reference.proofs.UnderWay.{UnderWay, items_walk}
use Rattle.reference.proofs.market.Told.tear_items.Given as goal

abbrev pub invariant-loop-k : goal.invariant-loop-k
invariant-loop-k l = UnderWay (items_walk l.a) (length (world_of l.initial.self.market).items) l.k l.initial.self l.self
