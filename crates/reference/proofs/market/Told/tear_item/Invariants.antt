use Rattle.std.proofs.Common.{length}
use Rattle.reference.specs.Means.{world_of}
use Rattle.reference.proofs.UnderWay.{UnderWay, item_walk}
use Rattle.reference.proofs.market.Told.tear_item.Given as goal

abbrev pub invariant-loop-b : goal.invariant-loop-b
invariant-loop-b l = UnderWay (item_walk l.a l.k) (length (world_of l.initial.self.market).accounts) l.b l.initial.self l.self
