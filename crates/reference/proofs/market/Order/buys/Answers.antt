use denote.Enum.Bare.{sameb}
use Rattle.std.proofs.Common.{◌≡◌, refl, ◌∙◌}
use Rattle.venue.specs.World.{is_buy}
use Rattle.wire.specs.Means.{side_of}
use Rattle.wire.specs.contracts.side.Side.{the_type}
use Rattle.wire.specs.declared.side.Side.{Side}
use Rattle.wire.specs.declared.side.Side.TheVariants.{Buy, Sell}
use Rattle.reference.proofs.market.Order.buys.Goals as goal

by_side : (s : Side) → sameb the_type s Buy ≡ is_buy (side_of s)
unfolding is_buy
by_side Buy = refl
by_side Sell = refl

pub returns : goal.returns
returns c = c.eq.ensures ∙ by_side c.args.self.now.side
