use Rattle.std.proofs.Common.{◌∙◌, w64}
use Rattle.std.proofs.lemmas.Int.{to_z-of_z}
use Rattle.reference.proofs.Mornings.{opposite_above, opposite_below, opposite_none}
use Rattle.reference.proofs.morning.opposite.Goals as goal

pub returns-then-h-gt0 : goal.returns-then-h-gt0
returns-then-h-gt0 c =
    let e = rw (to_z-of_z w64 c.args.h c.ranges.h) at c.if-h-gt0.true in
    rw (to_z-of_z w64 c.args.g c.ranges.g) (opposite_above c.args.h c.args.g e)

pub returns-then-h-lt0 : goal.returns-then-h-lt0
returns-then-h-lt0 c =
    let e = rw (to_z-of_z w64 c.args.h c.ranges.h) at c.if-h-lt0.true in
    rw (to_z-of_z w64 c.args.g c.ranges.g) (opposite_below c.args.h c.args.g e)

pub returns-else-h-lt0 : goal.returns-else-h-lt0
returns-else-h-lt0 c =
    let e = rw (to_z-of_z w64 c.args.h c.ranges.h) at c.if-h-gt0.false in
    let f = rw (to_z-of_z w64 c.args.h c.ranges.h) at c.if-h-lt0.false in
    c.if-h-lt0.false ∙ opposite_none c.args.h c.args.g e f
