-- Sums over the accounts: after one account is replaced, and each account's share. Cash, and what is held of an item, are such sums.
use Rattle.std.proofs.Common.{◌≡◌, ℕ, zero, suc, ◌<◌, List, [], ◌∷◌, length, get_or, set, ℤ, pos, ◌+ℤ◌, neg_ℤ, ◌≤ℤ◌, refl, ap, arith}
use Rattle.std.specs.List.{AllByRecursion}
use Rattle.std.proofs.lemmas.Int.{ints}
use Rattle.std.proofs.ByRecursion.{All-get_or}
use Rattle.venue.specs.Invariant.{NotBelow}
use Rattle.venue.specs.Promise.{all_cash, all_held}
use Rattle.venue.specs.World.{Account, World, account, held, nobody}

total : (Account → ℤ) → List Account → ℤ
total f [] = pos 0
total f (x ∷ xs) = f x +ℤ total f xs

total_set : (f : Account → ℤ) (xs : List Account) (a : ℕ) (x : Account) → a < length xs →
    total f (set xs a x) +ℤ f (get_or xs a nobody) ≡ total f xs +ℤ f x
unfolding total
total_set f [] a x h = absurd (omega arith)
total_set f (y ∷ ys) zero x h = omega (arith, ints)
total_set f (y ∷ ys) (suc a) x h = omega (arith, ints, total_set f ys a x (omega arith))

-- while none is below 0, none is more than all together
total_0 : (f : Account → ℤ) (xs : List Account) → AllByRecursion (λ (x : Account). pos 0 ≤ℤ f x) xs → pos 0 ≤ℤ total f xs
unfolding total
total_0 f [] g = omega (arith, ints)
total_0 f (x ∷ xs) g = omega (arith, ints, g.0, total_0 f xs g.1)

share : (f : Account → ℤ) (xs : List Account) (a : ℕ) → a < length xs → AllByRecursion (λ (x : Account). pos 0 ≤ℤ f x) xs → f (get_or xs a nobody) ≤ℤ total f xs
unfolding total
share f [] a h g = absurd (omega arith)
share f (x ∷ xs) zero h g = omega (arith, ints, g.0, total_0 f xs g.1)
share f (x ∷ xs) (suc a) h g = omega (arith, ints, g.0, share f xs a (omega arith) g.1)

-- of cash
cash_is : (xs : List Account) → all_cash xs ≡ total (λ (x : Account). x.cash) xs
unfolding all_cash total
cash_is [] = refl
cash_is (x ∷ xs) = ap (λ (z : ℤ). x.cash +ℤ z) (cash_is xs)

pub cash_set : (xs : List Account) (a : ℕ) (x : Account) → a < length xs →
    all_cash (set xs a x) +ℤ (get_or xs a nobody).cash ≡ all_cash xs +ℤ x.cash
cash_set xs a x h = rw (cash_is (set xs a x), cash_is xs) (total_set (λ (x : Account). x.cash) xs a x h)

pub cash_within : (w : World) (a : ℕ) → a < length w.accounts → AllByRecursion NotBelow w.accounts →
    (account w a).cash ≤ℤ all_cash w.accounts
unfolding account
cash_within w a h f = rw cash_is (share (λ (x : Account). x.cash) w.accounts a h f)

pub cash_at : (w : World) (a : ℕ) → a < length w.accounts → AllByRecursion NotBelow w.accounts → pos 0 ≤ℤ (account w a).cash
unfolding account
cash_at w a h f = All-get_or NotBelow w.accounts a nobody h f

-- of what is held of item k, and of what is owed
held_is : (k : ℕ) (xs : List Account) → all_held k xs ≡ total (λ (x : Account). held x k) xs
unfolding all_held total
held_is k [] = refl
held_is k (x ∷ xs) = ap (λ (z : ℤ). held x k +ℤ z) (held_is k xs)

owed_is : (k : ℕ) (xs : List Account) → neg_ℤ (all_held k xs) ≡ total (λ (x : Account). neg_ℤ (held x k)) xs
unfolding all_held total
owed_is k [] = refl
owed_is k (x ∷ xs) = let e = owed_is k xs in omega (arith, ints)

pub held_set : (k : ℕ) (xs : List Account) (a : ℕ) (x : Account) → a < length xs →
    all_held k (set xs a x) +ℤ held (get_or xs a nobody) k ≡ all_held k xs +ℤ held x k
held_set k xs a x h = rw (held_is k (set xs a x), held_is k xs) (total_set (λ (x : Account). held x k) xs a x h)

pub held_share : (k : ℕ) (xs : List Account) (a : ℕ) → a < length xs → AllByRecursion (λ (x : Account). pos 0 ≤ℤ held x k) xs →
    held (get_or xs a nobody) k ≤ℤ all_held k xs
held_share k xs a h f = rw held_is (share (λ (x : Account). held x k) xs a h f)

pub owed_share : (k : ℕ) (xs : List Account) (a : ℕ) → a < length xs → AllByRecursion (λ (x : Account). pos 0 ≤ℤ neg_ℤ (held x k)) xs →
    neg_ℤ (held (get_or xs a nobody) k) ≤ℤ neg_ℤ (all_held k xs)
owed_share k xs a h f = rw owed_is (share (λ (x : Account). neg_ℤ (held x k)) xs a h f)
