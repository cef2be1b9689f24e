use Rattle.std.proofs.Common.{arith, w64}
use Rattle.std.proofs.lemmas.Int.{ints, to_z-of_z}
use Rattle.reference.proofs.Products.{times_within}
use Rattle.reference.proofs.moves.times.Goals as goal

pub overflow_mul-result : goal.overflow_mul-result
overflow_mul-result c =
    let p = times_within c.args.h c.args.d 4294967296 4194304 c.requires.h c.requires.d in
    rw (to_z-of_z w64 c.args.h c.ranges.h, to_z-of_z w64 c.args.d c.ranges.d) (omega (arith, ints))

pub returns : goal.returns
returns c =
    let p = times_within c.args.h c.args.d 4294967296 4194304 c.requires.h c.requires.d in
    rw (to_z-of_z w64 c.args.h c.ranges.h, to_z-of_z w64 c.args.d c.ranges.d)
    (record { value = omega (arith, ints); bound = (omega (arith, ints), omega (arith, ints)) })
