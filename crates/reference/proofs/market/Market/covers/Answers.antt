use Rattle.std.proofs.Common.{◌≡◌, ap, arith, to_z, of_z}
use mir.Syntax.{w128}
use Rattle.std.proofs.lemmas.Int.{ints}
use Rattle.venue.specs.World.{account, covered, need}
use Rattle.reference.specs.Means.{world_of}
use Rattle.reference.proofs.Places.{account_read}
use Rattle.reference.proofs.market.Market.covers.Goals as goal

pub returns : goal.returns
unfolding covered
returns c =
    let w = world_of c.args.self.now in
    let r = ap (λ y. y.cash) (account_read c.args.self.now c.args.account c.from.result c.index.result.now c.requires.here c.from.ensures
    c.index.ensures) in
    let a : to_z w128 (of_z w128 c.need_of.result) ≡ need w c.args.account w.orders = omega (arith, ints, c.need_of.ensures.value) in
    let b : to_z w128 (of_z w128 c.from-2.result) ≡ (account w c.args.account).cash = omega (arith, ints) in
    rw (a, b)
