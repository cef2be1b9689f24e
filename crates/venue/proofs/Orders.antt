-- Lists of orders after some of one is taken, or one is gone: what holds of each, how many, and their numbers.
use Rattle.std.proofs.Common.{◌≡◌, ℕ, zero, suc, ◌<◌, ◌≤◌, List, [], ◌∷◌, length, get_or, ap, arith, rules}
use Rattle.std.proofs.lemmas.Int.{ints}
use Rattle.std.specs.List.{AllByRecursion}
use Rattle.venue.specs.World.{Order, less_left, no_order, taken, without}

pub all_taken : (P : Order → Type 0) → ((o : Order) (x : ℕ) → P o → (x < o.left) → P (less_left o x)) → (j x : ℕ) (os : List Order) → AllByRecursion P os →
    AllByRecursion P (taken j x os)
unfolding taken
all_taken P f zero x [] a = a
all_taken P f (suc j) x [] a = a
all_taken P f zero x (o ∷ os) a = search rules
all_taken P f (suc j) x (o ∷ os) a = (a.0, all_taken P f j x os a.1)

pub all_without : (P : Order → Type 0) (j : ℕ) (os : List Order) → AllByRecursion P os → AllByRecursion P (without j os)
unfolding without
all_without P zero [] a = a
all_without P (suc j) [] a = a
all_without P zero (o ∷ os) a = a.1
all_without P (suc j) (o ∷ os) a = (a.0, all_without P j os a.1)

pub without_none : (j : ℕ) → without j [] ≡ []
unfolding without
without_none j = grind (arith, ints)

pub few_taken : (j x : ℕ) (os : List Order) → length (taken j x os) ≤ length os
unfolding taken
few_taken zero x [] = omega arith
few_taken (suc j) x [] = omega arith
few_taken zero x (o ∷ os) = search rules
few_taken (suc j) x (o ∷ os) = omega (arith, few_taken j x os)

-- an order that is used up is gone
pub one_less : (j x : ℕ) (os : List Order) → j < length os → (get_or os j no_order).left ≤ x → suc (length (taken j x os)) ≡ length os
unfolding taken
one_less j x [] h l = absurd (omega arith)
one_less zero x (o ∷ os) h l = search rules
one_less (suc j) x (o ∷ os) h l = ap suc (one_less j x os (omega arith) l)

pub few_without : (j : ℕ) (os : List Order) → length (without j os) ≤ length os
unfolding without
few_without zero [] = omega arith
few_without (suc j) [] = omega arith
few_without zero (o ∷ os) = omega arith
few_without (suc j) (o ∷ os) = omega (arith, few_without j os)
