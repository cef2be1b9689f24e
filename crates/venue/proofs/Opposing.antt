-- Holdings that are opposed, and what tearing up makes of them, in plain words.
use Rattle.std.proofs.Common.{◌≡◌, true, ◌⊎◌, ℤ, pos, arith}
use Rattle.std.proofs.lemmas.Int.{ints}
use Rattle.venue.proofs.Opposites.{NotAgainst}
use Rattle.venue.specs.Morning.{Between, Opposed}
use Rattle.venue.specs.Tearing.{Nearer}
use Rattle.venue.specs.World.{opposite}

pub between : (h h' : ℤ) → Nearer h h' → Between h h'
between h h' e = grind (arith, ints)

pub opposed : (h g : ℤ) → opposite h g ≡ true → Opposed h g
unfolding opposite
opposed h g e = grind (arith, ints)

pub not_opposed : (h g : ℤ) → NotAgainst h g → Opposed h g → ⊥
not_opposed h g e f = grind (arith, ints)

pub self_opposed : (h : ℤ) → Opposed h h → ⊥
self_opposed h e = grind (arith, ints)

-- two that were opposed, came nearer to 0 and are no longer opposed: one of them is 0
pub one_is_0 : (h g h' g' : ℤ) → opposite h g ≡ true → Nearer h h' → Nearer g g' → NotAgainst h' g' → (h' ≡ pos 0) ⊎ (g' ≡ pos 0)
unfolding opposite
one_is_0 h g h' g' e f l m = grind (arith, ints)
