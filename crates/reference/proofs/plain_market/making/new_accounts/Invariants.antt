use Rattle.std.proofs.Common.{◌≡◌, map, replicate, pos, vec_items}
use Rattle.reference.specs.Means.{account_of}
use Rattle.reference.proofs.plain_market.making.new_accounts.Given as goal

abbrev pub invariant-loop : goal.invariant-loop
invariant-loop l = map account_of (vec_items l.all) ≡ replicate l.counter (record { cash = pos 0; holds = replicate l.items (pos 0) })
