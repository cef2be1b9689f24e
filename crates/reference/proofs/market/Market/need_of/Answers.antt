use Rattle.std.proofs.Common.{◌≡◌, rules}
use Rattle.std.proofs.lemmas.List.{length-map}
use Rattle.venue.specs.World.{account, need}
use Rattle.reference.specs.Means.{world_of, account_of}
use Rattle.reference.proofs.Places.{account_read}
use Rattle.reference.proofs.market.Market.need_of.Goals as goal
use Rattle.reference.proofs.market.Market.need_of.Goals.{After-index}

read : (c : goal.After-index) → account (world_of c.args.self.now) c.args.account ≡ account_of c.index.result.now
read c =
    account_read c.args.self.now c.args.account c.from.result c.index.result.now c.requires.here c.from.ensures c.index.ensures

pub need-requires-clause-shaped : goal.need-requires-clause-shaped
need-requires-clause-shaped c =
    let s = rw (read (goal.at.need-requires-clause-shaped c).After-index) at (simp length-map at (c.requires.fit.roomy.wide c.args.account c.requires.here)) in
    let t = simp length-map at s in
    search rules

pub returns-clause-value : goal.returns-clause-value
unfolding need
returns-clause-value c =
    let r = read (goal.at.returns-clause-value c).After-index in
    rw r (search rules)
