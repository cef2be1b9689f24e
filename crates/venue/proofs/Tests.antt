-- Tests put together, each with the fact that it decides.
use Rattle.std.proofs.Common.{◌≡◌, ℕ, ◌<◌, Bool, true, not, ◌&&◌, ◌||◌, List, ℤ, ◌≤ℤ◌, int_le, refl, rules}
use Rattle.std.specs.Bool.{Decides}
use Rattle.std.specs.List.{AllByRecursion}
use Rattle.std.proofs.ByRecursion.{Decides-by_and}
use Rattle.std.proofs.lemmas.Bool.Decides.{Decides-below_and}
use Rattle.venue.specs.Sound.{below, every, same}

-- the second is asked only where the first holds
pub both_then : {P Q : Type 0} (a b : Bool) → Decides a P → (P → Decides b Q) → Decides (a && b) (P × Q)
both_then a b s t = search rules

pub of_every : {A : Type 0} (f : A → Bool) (P : A → Type 0) → ((x : A) → Decides (f x) (P x)) → (xs : List A) →
    Decides (every f xs) (AllByRecursion P xs)
unfolding every
of_every f P t xs = Decides-by_and f P (every f) t refl (λ _ _. refl) xs

pub of_below : (f : ℕ → Bool) (P : ℕ → Type 0) → ((j : ℕ) → Decides (f j) (P j)) → (n : ℕ) → Decides (below n f) ((j : ℕ) → j < n → P j)
unfolding below
of_below f P t n = Decides-below_and f P (λ m. below m f) t refl (λ _. refl) n

-- the test of two numbers with signs
pub of_int_le : (a b : ℤ) → Decides (int_le a b) (a ≤ℤ b)
of_int_le a b = search rules

pub of_same : (a b : ℤ) → Decides (same a b) (a ≡ b)
of_same a b = search rules

pub of_if : {P : Type 0} (c b : Bool) → Decides b P → Decides (not c || b) (c ≡ true → P)
of_if c b t = search rules
