-- Of how many items accounts hold or owe something: each tear-up leaves at least one fewer.
use Rattle.std.proofs.Common.{◌≡◌, ℕ, zero, suc, ◌+◌, ◌*◌, ◌<◌, ◌≤◌, min, true, List, length, get_or, ℤ, pos, negsuc, ◌+ℤ◌, neg_ℤ, sum_by, sym, subst, arith, rules}
use Rattle.std.proofs.lemmas.Int.{ints}
use borrow.Author.Differences.{up, down}
use Rattle.std.specs.List.{AllByRecursion}
use Rattle.std.proofs.lemmas.List.Sums.{sum_by-set}
use Rattle.std.proofs.ByRecursion.{sum_by_le, All-from_get_or, All-weaker}
use Rattle.venue.proofs.Gets.{account_other, many_gets, wide_at, wide_gets}
use Rattle.venue.proofs.Opposites.{NotAgainst, TornBy, tear_by}
use Rattle.venue.proofs.TearUp.{amount, opposite_apart, torn_step}
use Rattle.venue.specs.Invariant.{Wide}
use Rattle.venue.specs.Tearing.{Nearer, Tearing}
use Rattle.venue.specs.World.{Account, Limits, World, account, gets, held, item, opposite, with_account}

-- whether something is held or owed
pub filled : ℤ → ℕ
filled (pos zero) = 0
filled (pos (suc a)) = 1
filled (negsuc a) = 1

-- of how many items an account holds or owes something, and all accounts together
abbrev pub holdings : Account → ℕ
holdings x = sum_by filled x.holds

abbrev pub all_holdings : World → ℕ
all_holdings w = sum_by holdings w.accounts

filled_is : (h : ℤ) → filled h ≡ min 1 (up h + down h)
unfolding filled
filled_is h = grind (arith, ints)

-- one account gets x of item k
holdings_gets : (w : World) (a k : ℕ) (x : ℤ) (p : ℕ) → a < length w.accounts → k < length (account w a).holds →
    all_holdings (gets w a k x p) + filled (held (account w a) k) ≡ all_holdings w + filled (held (account w a) k +ℤ x)
unfolding gets with_account account held
holdings_gets w a k x p h l = search (rules, sum_by-set)

one_less_filled : (h g h' g' : ℤ) → opposite h g ≡ true → Nearer h h' → Nearer g g' → NotAgainst h' g' →
    suc (min 1 (up h' + down h') + min 1 (up g' + down g')) ≤ min 1 (up h + down h) + min 1 (up g + down g)
unfolding opposite
one_less_filled h g h' g' e f l m = search rules

-- of two opposite holdings at least one is gone
one_gone : (h g s : ℤ) → opposite h g ≡ true → TornBy h g s → suc (filled (h +ℤ neg_ℤ s) + filled (g +ℤ s)) ≤ filled h + filled g
one_gone h g s e t = search (rules, filled_is, one_less_filled)

-- so a step leaves at least one holding fewer
pub step_holdings : (z : Limits) (w : World) (a b k : ℕ) → Tearing z w → a < length w.accounts → b < length w.accounts → k < length w.items →
    opposite (held (account w a) k) (held (account w b) k) ≡ true → suc (all_holdings (torn_step w a b k)) ≤ all_holdings w
step_holdings z w a b k g la lb lk e =
    let s = amount w a b k in
    let p = (item w k).price in
    let v = gets w a k (neg_ℤ s) p in
    let lv : b < length v.accounts = omega (arith, many_gets w a k (neg_ℤ s) p) in
    let d = wide_at (length w.items) w a la g.inv.wide in
    let c = wide_at (length w.items) v b lv (wide_gets (length w.items) w a k (neg_ℤ s) p la g.inv.wide) in
    let q = account_other w a k (neg_ℤ s) p b (λ r. opposite_apart w a b k e (sym r)) in
    let one = holdings_gets w a k (neg_ℤ s) p la (omega arith) in
    let two = holdings_gets v b k s p lv (omega arith) in
    let two' : all_holdings (torn_step w a b k) + filled (held (account w b) k) ≡ all_holdings v + filled (held (account w b) k +ℤ s) =
    subst (λ (y : Account). all_holdings (torn_step w a b k) + filled (held y k) ≡ all_holdings v + filled (held y k +ℤ s)) q two in
    let o = one_gone (held (account w a) k) (held (account w b) k) s e (tear_by (held (account w a) k) (held (account w b) k) e) in
    omega arith

filled_le : (hs : List ℤ) → sum_by filled hs ≤ length hs
filled_le hs =
    let t = sum_by_le filled 1 hs (All-from_get_or (λ (h : ℤ). filled h ≤ 1) hs (pos 0) (λ k l. omega (arith, filled_is (get_or hs k (pos 0))))) in
    omega arith

-- no more than accounts and items
pub holdings_le : (n : ℕ) (w : World) → AllByRecursion (Wide n) w.accounts → all_holdings w ≤ length w.accounts * n
holdings_le n w f = search (rules, sum_by_le, All-weaker, filled_le)
