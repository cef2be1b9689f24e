-- What one account has, and all together have, after it got some of an item.
use Rattle.std.proofs.Common.{◌≡◌, ℕ, ◌<◌, eqb, ◌≢◌, length, set, ℤ, pos, ◌+ℤ◌, ◌-ℤ◌, ◌*ℤ◌, refl, arith, rules}
use Rattle.std.proofs.lemmas.Grind.{common_steps}
use Rattle.std.specs.List.{AllByRecursion}
use Rattle.std.proofs.lemmas.Int.{ints}
use Rattle.std.proofs.ByRecursion.{All-get_or}
use Rattle.std.proofs.lemmas.Bool.{eq-eqb}
use Rattle.std.proofs.lemmas.List.{length-set, get_or-set_same, get_or-set_other}
use Rattle.venue.proofs.Totals.{cash_set, held_set}
use Rattle.venue.specs.Invariant.{Wide}
use Rattle.venue.specs.Promise.{all_cash, all_held}
use Rattle.venue.specs.World.{Account, World, account, gets, held, item, nobody, pick, with_account}

-- account a after it got x of item k for p each
unfoldable pub after : World → ℕ → ℕ → ℤ → ℕ → Account
after w a k x p =
    record {
      cash = (account w a).cash -ℤ (x *ℤ (pos p -ℤ pos (item w k).price));
      holds = set (account w a).holds k (held (account w a) k +ℤ x);
    }

pub cash_after : (w : World) (a k : ℕ) (x : ℤ) (p : ℕ) →
    (after w a k x p).cash ≡ (account w a).cash -ℤ (x *ℤ (pos p -ℤ pos (item w k).price))
unfolding after
cash_after w a k x p = refl

held_after : (w : World) (a k : ℕ) (x : ℤ) (p j : ℕ) → k < length (account w a).holds →
    held (after w a k x p) j ≡ held (account w a) j +ℤ pick (eqb j k) x (pos 0)
unfolding after held
held_after w a k x p j h = search rules

pub held_there : (w : World) (a k : ℕ) (x : ℤ) (p j : ℕ) → k < length (account w a).holds → j ≡ k →
    held (after w a k x p) j ≡ held (account w a) j +ℤ x
held_there w a k x p j h e = let d = held_after w a k x p j h in let t = eq-eqb j k e in rw t at d

pub held_elsewhere : (w : World) (a k : ℕ) (x : ℤ) (p j : ℕ) → k < length (account w a).holds → j ≢ k →
    held (after w a k x p) j ≡ held (account w a) j
held_elsewhere w a k x p j h e = search (rules, held_after)

pub account_same : (w : World) (a k : ℕ) (x : ℤ) (p : ℕ) → a < length w.accounts → account (gets w a k x p) a ≡ after w a k x p
unfolding gets with_account account after
account_same w a k x p h = get_or-set_same w.accounts a (after w a k x p) nobody h

pub account_other : (w : World) (a k : ℕ) (x : ℤ) (p c : ℕ) → c ≢ a → account (gets w a k x p) c ≡ account w c
unfolding gets with_account account after
account_other w a k x p c h = get_or-set_other w.accounts a c (after w a k x p) nobody h

pub many_gets : (w : World) (a k : ℕ) (x : ℤ) (p : ℕ) → length (gets w a k x p).accounts ≡ length w.accounts
unfolding gets with_account
many_gets w a k x p = length-set w.accounts a _

pub items_gets : (w : World) (a k : ℕ) (x : ℤ) (p : ℕ) → (gets w a k x p).items ≡ w.items
unfolding gets with_account
items_gets w a k x p = refl

pub item_gets : (w : World) (a k : ℕ) (x : ℤ) (p j : ℕ) → item (gets w a k x p) j ≡ item w j
unfolding gets with_account item
item_gets w a k x p j = refl

pub wide_at : (n : ℕ) (w : World) (a : ℕ) → a < length w.accounts → AllByRecursion (Wide n) w.accounts → length (account w a).holds ≡ n
unfolding account
wide_at n w a h f = All-get_or (Wide n) w.accounts a nobody h f

pub wide_gets : (n : ℕ) (w : World) (a k : ℕ) (x : ℤ) (p : ℕ) → a < length w.accounts → AllByRecursion (Wide n) w.accounts →
    AllByRecursion (Wide n) (gets w a k x p).accounts
unfolding gets with_account account
wide_gets n w a k x p h f = grind (arith, common_steps)

-- all cash, and all that is held of an item
pub cash_gets : (w : World) (a k : ℕ) (x : ℤ) (p : ℕ) → a < length w.accounts →
    all_cash (gets w a k x p).accounts ≡ all_cash w.accounts -ℤ (x *ℤ (pos p -ℤ pos (item w k).price))
unfolding gets with_account account after
cash_gets w a k x p h = omega (arith, ints, cash_set w.accounts a (after w a k x p) h)

pub held_gets : (w : World) (a k : ℕ) (x : ℤ) (p j : ℕ) → a < length w.accounts → k < length (account w a).holds →
    all_held j (gets w a k x p).accounts ≡ all_held j w.accounts +ℤ pick (eqb j k) x (pos 0)
unfolding gets with_account account after
held_gets w a k x p j h l =
    omega (arith, ints, held_set j w.accounts a (after w a k x p) h, held_after w a k x p j l)
