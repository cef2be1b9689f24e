-- Laws of products of whole numbers. With `simp ring` products are spread out, and `omega (arith, linear)` takes each as an unknown.
use Rattle.std.proofs.Common.{◌≡◌, ℕ, ◌*◌, ℤ, pos, ◌+ℤ◌, ◌-ℤ◌, ◌*ℤ◌, neg_ℤ, ap, ◌∙◌, arith, rules}
use lib.IntN.{*ℤ_comm}
use borrow.Author.Differences.{up, down, sum_is_lem}
use Rattle.std.proofs.lemmas.Int.{ints}

pub dist_r : (a b c : ℤ) → (a +ℤ b) *ℤ c ≡ (a *ℤ c) +ℤ (b *ℤ c)
dist_r a b c = omega (arith, ints, ap (λ (n : ℕ). n * up c) (sum_is_lem a b), ap (λ (n : ℕ). n * down c) (sum_is_lem a b))

pub dist_l : (a b c : ℤ) → c *ℤ (a +ℤ b) ≡ (c *ℤ a) +ℤ (c *ℤ b)
dist_l a b c = omega (arith, ints, ap (λ (n : ℕ). n * up c) (sum_is_lem a b), ap (λ (n : ℕ). n * down c) (sum_is_lem a b))

pub neg_l : (a b : ℤ) → neg_ℤ a *ℤ b ≡ neg_ℤ (a *ℤ b)
neg_l a b = grind (arith, ints)

pub neg_r : (a b : ℤ) → a *ℤ neg_ℤ b ≡ neg_ℤ (a *ℤ b)
neg_r a b = *ℤ_comm a (neg_ℤ b) ∙ neg_l b a ∙ ap neg_ℤ (*ℤ_comm b a)

-- a difference times a number without sign, and times one below 0
pub times_diff : (a p q : ℕ) → pos a *ℤ (pos p -ℤ pos q) ≡ pos (a * p) -ℤ pos (a * q)
times_diff a p q = dist_l (pos p) (neg_ℤ (pos q)) (pos a) ∙ ap (λ (z : ℤ). pos (a * p) +ℤ z) (neg_r (pos a) (pos q))

pub times_diff_neg : (a p q : ℕ) → neg_ℤ (pos a) *ℤ (pos p -ℤ pos q) ≡ pos (a * q) -ℤ pos (a * p)
times_diff_neg a p q = omega (arith, ints, neg_l (pos a) (pos p -ℤ pos q), times_diff a p q)

-- nothing is gained at the price itself
pub no_gain : (x : ℤ) (p : ℕ) (c : ℤ) → c -ℤ (x *ℤ (pos p -ℤ pos p)) ≡ c
no_gain x p c = search rules
