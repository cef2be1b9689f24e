use Rattle.std.proofs.Common.{◌≡◌, ◌*ℤ◌, arith, to_z, of_z}
use mir.Syntax.{w128}
use Rattle.std.proofs.lemmas.Int.{ints}
use Rattle.reference.specs.Conditions.{Within}
use Rattle.reference.proofs.Products.{times_within}
use Rattle.reference.proofs.needs.product.Goals as goal
use Rattle.reference.proofs.needs.product.Goals.{After-from-2}

same : (c : After-from-2) → to_z w128 (of_z w128 c.from.result) *ℤ to_z w128 (of_z w128 c.from-2.result) ≡ c.args.held *ℤ c.args.by
same c =
    let a : to_z w128 (of_z w128 c.from.result) ≡ c.args.held = omega (arith, ints) in
    let b : to_z w128 (of_z w128 c.from-2.result) ≡ c.args.by = omega (arith, ints) in
    cc

within : (c : After-from-2) → Within 39614081257132168796771975168 (c.args.held *ℤ c.args.by)
within c = times_within c.args.held c.args.by 9223372036854775808 4294967296 (omega (arith, ints), omega (arith, ints)) c.requires

pub overflow_mul-result : goal.overflow_mul-result
overflow_mul-result c = let p = within c in rw (same c) (omega (arith, ints))

pub returns : goal.returns
returns c = let p = within c in rw (same c) (record { value = omega (arith, ints); bound = (omega (arith, ints), omega (arith, ints)) })
