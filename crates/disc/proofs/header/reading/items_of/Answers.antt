use Rattle.std.proofs.Common.{arith}
use Rattle.std.proofs.lemmas.Grind.{common_steps}
use Rattle.disc.specs.Block0.{items_from}
use Rattle.disc.specs.Few.{few_items}
use Rattle.disc.proofs.Steps.{items_more, length_more}
use Rattle.disc.proofs.header.reading.items_of.Goals as goal

pub loop-k-init : goal.loop-k-init
unfolding items_from
loop-k-init c = rw c.new-items.ensures

pub unwrap-requires : goal.unwrap-requires
unwrap-requires c =
    let long = length_more c.args.bytes.now 24 c.loop-k.k (few_items c.loop-k.items) c.loop-k.invariant in
    c.push.ensures.room.1 (omega arith)

pub loop-k-preserved : goal.loop-k-preserved
loop-k-preserved c = grind (arith, common_steps, items_more)
