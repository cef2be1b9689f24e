-- How much an account may come to hold or owe of an item, with all orders carried out: a trade never raises it.
use Rattle.std.proofs.Common.{◌≡◌, ℕ, ◌+◌, ◌<◌, ◌≤◌, List, length, ℤ, pos, ◌+ℤ◌, neg_ℤ, arith}
use Rattle.std.proofs.lemmas.Int.{ints}
use Rattle.std.proofs.lemmas.Bool.Decides.{nat_tests}
use Rattle.std.proofs.lemmas.Bool.{cases_eq}
use Rattle.venue.proofs.Gets.{account_other, account_same, held_elsewhere, held_there, many_gets}
use Rattle.venue.proofs.Picks.{abs_is}
use Rattle.venue.proofs.Released.{standing_less, stw}
use Rattle.venue.proofs.Weights.{Less}
use Rattle.venue.specs.Invariant.{Within}
use Rattle.venue.specs.World.{Order, World, abs, account, gets}

pub abs_more : (h : ℤ) (m : ℕ) → abs (h +ℤ pos m) ≤ abs h + m
abs_more h m = rw (abs_is (h +ℤ pos m), abs_is h) (omega (arith, ints))

pub abs_less : (h : ℤ) (m : ℕ) → abs (h +ℤ neg_ℤ (pos m)) ≤ abs h + m
abs_less h m = rw (abs_is (h +ℤ neg_ℤ (pos m)), abs_is h) (omega (arith, ints))

-- what an order adds to its own account and item, and to others
pub own_standing : (u : Order) (j : ℕ) → j ≡ u.item → stw u.account j u ≡ u.left
own_standing u j e = grind (arith, nat_tests)

-- one side of a trade: order u is carried out, and its account gets x
pub within_gets : (H : ℕ) (w : World) (u : Order) (x : ℤ) (p : ℕ) (os os' : List Order) → ((h : ℤ) → abs (h +ℤ x) ≤ abs h + u.left) →
    u.account < length w.accounts → u.item < length (account w u.account).holds → Less os os' u → Within H w os →
    Within H (gets w u.account u.item x p) os'
within_gets H w u x p os os' g ha hk f v c j hc = grind (arith, ints, cases_eq, many_gets, account_same, account_other, standing_less os os' u f, held_there, held_elsewhere, own_standing)
