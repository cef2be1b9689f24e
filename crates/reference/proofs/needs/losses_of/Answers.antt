use Rattle.std.proofs.Common.{arith}
use Rattle.std.proofs.lemmas.Bool.Decides.{nat_tests}
use Rattle.std.proofs.lemmas.List.{drop_all}
use Rattle.venue.specs.World.{buys, sells}
use Rattle.wire.specs.Means.{item_of}
use Rattle.reference.specs.Parts.{buy_loss, sell_loss}
use Rattle.reference.proofs.Steps.{buys_more, sells_more}
use Rattle.reference.proofs.needs.losses_of.Goals as goal

pub loop-o-preserved-then-o-account : goal.loop-o-preserved-then-o-account
unfolding buy_loss sell_loss
loop-o-preserved-then-o-account c =
    let b = buys_more c.args.account c.args.item c.args.orders.now c.loop-o.o-index c.loop-o-test.true (item_of c.args.at)
    in
    let s = sells_more c.args.account c.args.item c.args.orders.now c.loop-o.o-index c.loop-o-test.true (item_of c.args.at)
    in
    grind (arith, nat_tests)

pub loop-o-preserved : goal.loop-o-preserved
unfolding buy_loss sell_loss
loop-o-preserved c =
    let b = buys_more c.args.account c.args.item c.args.orders.now c.loop-o.o-index c.loop-o-test.true (item_of c.args.at)
    in
    let s = sells_more c.args.account c.args.item c.args.orders.now c.loop-o.o-index c.loop-o-test.true (item_of c.args.at)
    in
    grind arith

pub returns : goal.returns
unfolding buys sells
returns c = grind (arith, drop_all)
