use Rattle.std.proofs.Common.{arith, rules}
use Rattle.std.proofs.lemmas.List.{length-map}
use Rattle.std.proofs.lemmas.Bool.Decides.{nat_tests}
use Rattle.reference.proofs.Places.{item_read}
use Rattle.reference.proofs.market.Market.is_well_formed.Goals as goal

pub returns-then-price-asked : goal.returns-then-price-asked
returns-then-price-asked c k =
    let i = item_read c.args.self.now c.args.order.now.item c.from-item.result c.index-of.result.now (simp length-map (search rules))
    c.from-item.ensures c.index-of.ensures in
    simp (i, length-map) (grind (arith, nat_tests))

pub returns-else-price-asked : goal.returns-else-price-asked
returns-else-price-asked c k =
    let i = item_read c.args.self.now c.args.order.now.item c.from-item.result c.index-of.result.now (simp length-map (search rules))
    c.from-item.ensures c.index-of.ensures in
    simp (i, length-map) (grind (arith, nat_tests))
