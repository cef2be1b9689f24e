-- The orders' numbers rise: also after some are taken or gone, and with a new one behind them.
use Rattle.std.proofs.Common.{ℕ, zero, suc, ◌<◌, ◌≤◌, List, [], ◌∷◌, ◌++◌, arith, rules}
use Rattle.std.specs.List.{AllByRecursion}
use Rattle.venue.specs.Invariant.{Rising}
use Rattle.venue.specs.World.{Order, less_left, taken, without}

pub rising_lower : (s t : ℕ) (os : List Order) (n : ℕ) → s ≤ t → Rising t os n → Rising s os n
rising_lower s t [] n h r = omega arith
rising_lower s t (o ∷ os) n h r = (omega (arith, r.0), r.1)

pub rising_ends : (t : ℕ) (os : List Order) (n : ℕ) → Rising t os n → t ≤ n
rising_ends t [] n r = r
rising_ends t (o ∷ os) n r = omega (arith, r.0, rising_ends (suc o.number) os n r.1)

pub rising_higher : (t : ℕ) (os : List Order) (m n : ℕ) → m ≤ n → Rising t os m → Rising t os n
rising_higher t [] m n h r = omega arith
rising_higher t (o ∷ os) m n h r = (r.0, rising_higher (suc o.number) os m n h r.1)

pub rising_taken : (t j x : ℕ) (os : List Order) (n : ℕ) → Rising t os n → Rising t (taken j x os) n
unfolding taken less_left
rising_taken t zero x [] n r = r
rising_taken t (suc j) x [] n r = r
rising_taken t zero x (o ∷ os) n r = search (rules, rising_lower)
rising_taken t (suc j) x (o ∷ os) n r = (r.0, rising_taken (suc o.number) j x os n r.1)

pub rising_without : (t j : ℕ) (os : List Order) (n : ℕ) → Rising t os n → Rising t (without j os) n
unfolding without
rising_without t zero [] n r = r
rising_without t (suc j) [] n r = r
rising_without t zero (o ∷ os) n r = rising_lower t (suc o.number) os n (omega (arith, r.0)) r.1
rising_without t (suc j) (o ∷ os) n r = (r.0, rising_without (suc o.number) j os n r.1)

pub rising_push : (t : ℕ) (os : List Order) (o : Order) → Rising t os o.number → Rising t (os ++ o ∷ []) (suc o.number)
rising_push t [] o r = (r, omega arith)
rising_push t (p ∷ os) o r = (r.0, rising_push (suc p.number) os o r.1)

-- each is below the end
pub numbers_below : (t : ℕ) (os : List Order) (n : ℕ) → Rising t os n → AllByRecursion (λ (o : Order). o.number < n) os
numbers_below t [] n r = tt
numbers_below t (o ∷ os) n r = (rising_ends (suc o.number) os n r.1, numbers_below (suc o.number) os n r.1)
