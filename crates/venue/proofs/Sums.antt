-- Sums below a number.
use Rattle.std.proofs.Common.{◌≡◌, ℕ, zero, suc, ◌<◌, ℤ, ◌+ℤ◌, ◌≤ℤ◌, refl, arith, rules}
use Rattle.std.proofs.lemmas.Int.{ints}
use Rattle.venue.specs.Settlement.{total}

-- the first can be taken out
pub total_front : (n : ℕ) (f : ℕ → ℤ) → total (suc n) f ≡ f 0 +ℤ total n (λ (k : ℕ). f (suc k))
unfolding total
total_front zero f = omega (arith, ints)
total_front (suc n) f = let e = total_front n f in omega (arith, ints)

pub total_same : (n : ℕ) (f g : ℕ → ℤ) → ((k : ℕ) → k < n → f k ≡ g k) → total n f ≡ total n g
unfolding total
total_same zero f g h = refl
total_same (suc n) f g h = search (rules, total_same n f g (λ k l. h k (omega arith)))

pub total_le : (n : ℕ) (f g : ℕ → ℤ) → ((k : ℕ) → k < n → f k ≤ℤ g k) → total n f ≤ℤ total n g
unfolding total
total_le zero f g h = omega (arith, ints)
total_le (suc n) f g h = search (rules, total_le n f g (λ k l. h k (omega arith)))
