-- What holds below one number more; what `pick` gives, and with it `lesser`, `larger`, `signed` and `abs`.
use Rattle.std.proofs.Common.{◌≡◌, ℕ, suc, ◌<◌, ◌≤◌, Bool, true, false, ◌⊎◌, ℤ, pos, nat_abs, ◌≤ℤ◌, sym, refl, subst, ⊎_elim, arith}
use Rattle.std.proofs.lemmas.Bool.Decides.{nat_tests}
use Rattle.std.proofs.lemmas.Int.{ints}
use Rattle.std.proofs.lemmas.Bool.{cases_eq}
use Rattle.venue.specs.World.{abs, larger, lesser, pick}

-- of every number below a, and of a
pub one_more : (P : ℕ → Type 0) (a : ℕ) → ((c : ℕ) → c < a → P c) → P a → (c : ℕ) → c < suc a → P c
one_more P a f p c l = ⊎_elim (λ (q : c ≡ a). subst P (sym q) p) (λ (q : c ≡ a → ⊥). f c (omega arith)) (cases_eq c a)

-- both ways of a test
pub by_pick : {A : Type 0} (P : A → Type 0) (b : Bool) (x y : A) → (b ≡ true → P x) → (b ≡ false → P y) → P (pick b x y)
by_pick P true x y f g = f refl
by_pick P false x y f g = g refl

pub lesser_left : (a b : ℕ) → lesser a b ≤ a
lesser_left a b = grind (arith, nat_tests)

pub lesser_right : (a b : ℕ) → lesser a b ≤ b
lesser_right a b = grind (arith, nat_tests)

pub lesser_either : (a b : ℕ) → (lesser a b ≡ a) ⊎ (lesser a b ≡ b)
lesser_either a b = grind (arith, nat_tests)

pub larger_within : (a b c : ℤ) → a ≤ℤ c → b ≤ℤ c → larger a b ≤ℤ c
unfolding larger
larger_within a b c e f = grind (arith, ints)

pub larger_left : (a b : ℤ) → a ≤ℤ larger a b
unfolding larger
larger_left a b = grind (arith, ints)

pub larger_right : (a b : ℤ) → b ≤ℤ larger a b
unfolding larger
larger_right a b = grind (arith, ints)

pub abs_pos : (a : ℕ) → abs (pos a) ≡ a
unfolding abs
abs_pos a = grind (arith, ints)

pub abs_is : (h : ℤ) → abs h ≡ nat_abs h
unfolding abs
abs_is h = grind (arith, ints)
