use Rattle.wire.specs.Means.{kinds_of}
use Rattle.reference.specs.Means.{limits_of, world_of}
use Rattle.reference.proofs.Ranges.{standing_fit}
use Rattle.reference.proofs.Standing.{stands}
use Rattle.reference.proofs.plain_market.PlainMarket.need.Goals as goal

pub need_of-requires-clause-fit : goal.need_of-requires-clause-fit
need_of-requires-clause-fit c =
    let m = c.args.self.now in
    let k = kinds_of m.kinds in
    let l = m.told.market.limits in
    standing_fit (limits_of l k) (world_of m.told.market) (stands l k (world_of m.told.market) m.sound m.sized)
