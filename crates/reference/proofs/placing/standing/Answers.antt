use Rattle.std.proofs.Common.{arith}
use Rattle.std.proofs.lemmas.List.{drop_all}
use Rattle.std.proofs.lemmas.Bool.Decides.{nat_tests}
use Rattle.venue.specs.World as world
use Rattle.reference.proofs.Steps.{standing_more}
use Rattle.reference.proofs.placing.standing.Goals as goal

pub loop-o-preserved : goal.loop-o-preserved
loop-o-preserved c =
    let e = standing_more c.args.account c.args.item c.args.orders.now c.loop-o.o-index c.loop-o-test.true in
    grind (arith, nat_tests)

pub returns : goal.returns
unfolding world.standing
returns c = grind (arith, drop_all)
