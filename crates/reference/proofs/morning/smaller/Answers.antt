use Rattle.std.proofs.Common.{◌≡◌, ◌≤◌, nat_abs, sym, ap, ◌∙◌, arith, w64}
use Rattle.std.proofs.lemmas.Int.{ints, to_z-of_z}
use Rattle.std.proofs.lemmas.Bool.Decides.{nat_tests}
use Rattle.venue.specs.World.{lesser, abs}
use Rattle.reference.proofs.Products.{abs_is}
use Rattle.reference.proofs.Mornings.{signed_below, signed_above}
use Rattle.reference.proofs.morning.smaller.Goals as goal
use Rattle.reference.proofs.morning.smaller.Goals.{After-traded-size}

-- the size, and that it is small
size : (c : goal.After-traded-size) → (c.traded-size.result ≡ lesser (abs c.args.h) (abs c.args.g)) × (c.traded-size.result ≤ 2147483648)
size c =
    let a : c.unsigned_abs.result ≡ abs c.args.h = c.unsigned_abs.ensures.value ∙ ap nat_abs (to_z-of_z w64 c.args.h c.ranges.h) ∙ sym
    (abs_is c.args.h) in
    let b : c.unsigned_abs-2.result ≡ abs c.args.g = c.unsigned_abs-2.ensures.value ∙ ap nat_abs (to_z-of_z w64 c.args.g c.ranges.g) ∙
    sym (abs_is c.args.g) in
    let l : c.traded-size.result ≤ c.unsigned_abs.result = grind (arith, nat_tests) in
    let m : c.unsigned_abs.result ≤ 2147483648 = omega (arith, ints, c.unsigned_abs.ensures.value, c.requires.h.0, c.requires.h.1) in
    (rw (← a, ← b) c.traded-size.ensures, omega arith)

pub returns-then-h-lt0-clause-value : goal.returns-then-h-lt0-clause-value
returns-then-h-lt0-clause-value c =
    let s = size (goal.at.returns-then-h-lt0-clause-value c).After-traded-size in
    let l = s.1 in
    let e = rw (to_z-of_z w64 c.args.h c.ranges.h) at c.if-h-lt0.true in
    rw (signed_below c.args.h (lesser (abs c.args.h) (abs c.args.g)) e, ← s.0) (omega (arith, ints))

pub returns-else-h-lt0-clause-value : goal.returns-else-h-lt0-clause-value
returns-else-h-lt0-clause-value c =
    let s = size (goal.at.returns-else-h-lt0-clause-value c).After-traded-size in
    let l = s.1 in
    let e = rw (to_z-of_z w64 c.args.h c.ranges.h) at c.if-h-lt0.false in
    rw (signed_above c.args.h (lesser (abs c.args.h) (abs c.args.g)) e, ← s.0) (omega (arith, ints))
