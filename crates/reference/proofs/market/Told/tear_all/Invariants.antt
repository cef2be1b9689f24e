use Rattle.std.proofs.Common.{length}
use Rattle.reference.specs.Means.{world_of}
use Rattle.reference.proofs.UnderWay.{UnderWay, all_walk}
use Rattle.reference.proofs.market.Told.tear_all.Given as goal

abbrev pub invariant-loop-a : goal.invariant-loop-a
invariant-loop-a l = UnderWay all_walk (length (world_of l.initial.self.market).accounts) l.a l.initial.self l.self
