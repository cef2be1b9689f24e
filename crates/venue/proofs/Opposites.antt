-- One step of tearing up, in numbers: both holdings come nearer to 0, and are no longer opposite.
use Rattle.std.proofs.Common.{◌≡◌, ◌≤◌, true, false, ℤ, pos, ◌+ℤ◌, neg_ℤ, arith, rules}
use borrow.Author.Differences.{up, down}
use Rattle.std.proofs.lemmas.Int.{ints}
use Rattle.venue.proofs.Picks.{abs_is}
use Rattle.venue.specs.Tearing.{Nearer}
use Rattle.venue.specs.World.{abs, lesser, opposite, signed}

pub near_same : (h : ℤ) → Nearer h h
near_same h = (omega arith, omega arith)

pub near_zero : (h : ℤ) → Nearer (pos 0) h → h ≡ pos 0
near_zero h e = grind (arith, ints)

pub abs_near : (h h' : ℤ) → Nearer h h' → abs h' ≤ abs h
abs_near h h' f = search (rules, abs_is)

-- not one above 0 and one below
abbrev pub NotAgainst : ℤ → ℤ → Type 0
NotAgainst h g = (1 ≤ up h → 1 ≤ down g → ⊥) × (1 ≤ down h → 1 ≤ up g → ⊥)

pub not_against : (h g : ℤ) → opposite h g ≡ false → NotAgainst h g
unfolding opposite
not_against h g e = grind (arith, ints)

pub near_against : (h h' g g' : ℤ) → Nearer h h' → Nearer g g' → NotAgainst h g → NotAgainst h' g'
near_against h h' g g' a b c = (λ x y. c.0 (omega arith) (omega arith), λ x y. c.1 (omega arith) (omega arith))

pub opposite_self : (h : ℤ) → opposite h h ≡ true → ⊥
unfolding opposite
opposite_self h e = grind (arith, ints)

-- s of h is torn up against g
pub record TornBy (h g s : ℤ) : Type 0 where
  pub one : Nearer h (h +ℤ neg_ℤ s)
  pub two : Nearer g (g +ℤ s)
  pub apart : NotAgainst (h +ℤ neg_ℤ s) (g +ℤ s)

pub tear_by : (h g : ℤ) → opposite h g ≡ true → TornBy h g (signed h (lesser (abs h) (abs g)))
unfolding opposite signed abs
tear_by h g e = search rules
