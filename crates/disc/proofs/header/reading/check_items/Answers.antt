use Rattle.std.proofs.Common.{◌+◌, ◌-◌, ◌*◌, arith}
use Rattle.std.proofs.lemmas.Grind.{common_steps}
use Rattle.disc.proofs.Steps.{bad_item_skip, bad_item_found, bad_item_end, past_end}
use Rattle.disc.proofs.header.reading.check_items.Goals as goal

pub returns-then-bytes-i : goal.returns-then-bytes-i
returns-then-bytes-i c =
    let end = past_end c.args.bytes.now (24 + 8 * c.loop-k.k) (c.args.count - c.loop-k.k) in
    grind (arith, common_steps)

pub returns-in_err-check_item : goal.returns-in_err-check_item
returns-in_err-check_item c =
    let there = bad_item_found c.args.bytes.now (24 + 8 * c.loop-k.k) (c.args.count - (c.loop-k.k + 1)) in
    grind (arith, common_steps)

pub loop-k-preserved : goal.loop-k-preserved
loop-k-preserved c =
    let next = bad_item_skip c.args.bytes.now (24 + 8 * c.loop-k.k) (c.args.count - (c.loop-k.k + 1)) in
    grind (arith, common_steps)

pub returns : goal.returns
returns c = let end = bad_item_end c.args.bytes.now (24 + 8 * c.loop-k.k) in grind arith
