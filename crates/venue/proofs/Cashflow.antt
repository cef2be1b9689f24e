-- All cash, from what was said and reported.
use Rattle.std.proofs.Common.{◌≡◌, ℕ, zero, suc, ◌+◌, ◌<◌, ◌≤◌, true, ◌&&◌, ltb, leb, List, [], ◌∷◌, length, pos, ◌-ℤ◌, ◌≤ℤ◌, refl, ap, arith, rules}
use lib.Signed.{le_z}
use Rattle.std.proofs.lemmas.Int.{ints}
use Rattle.venue.proofs.Margins.{need_0}
use Rattle.venue.proofs.Messages.{leads_says}
use Rattle.venue.proofs.Picks.{by_pick}
use Rattle.venue.proofs.Runs.{inv_first, inv_run}
use Rattle.venue.proofs.TearAll.{tears_all}
use Rattle.venue.proofs.Totals.{cash_within}
use Rattle.venue.proofs.Trades.{traded_is}
use Rattle.venue.specs.Invariant.{Inv}
use Rattle.venue.specs.Payment.{CashByReports, pays_in, pays_out, sum_taken, was_taken}
use Rattle.venue.specs.World.{Limits, Message, Order, Report, World, account, begin_day, cancel, counted, end_day, first, gets, kind, matched}
use Rattle.venue.specs.World.{need, pay_in, pay_out, pick, place, reports, run, says, says_it, traded, with_account}
use Rattle.venue.specs.World.{with_money, with_orders}

pub money_traded : (w : World) (o r : Order) (j x : ℕ) → (traded w o r j x).money ≡ w.money
unfolding gets with_account with_orders
money_traded w o r j x = ap (λ (v : World). v.money) (traded_is w o r j x)

money_matched : (f : ℕ) (w : World) (o : Order) → (matched f w o).0.money ≡ w.money
unfolding matched with_orders
money_matched zero w o = refl
money_matched (suc f) w o = search (rules, money_matched f, money_traded)

money_placed : (w : World) (o : Order) → (matched (suc (length w.orders)) (counted w) o).0.money ≡ w.money
unfolding counted
money_placed w o = money_matched (suc (length w.orders)) (counted w) o

-- who pays out x has as much, and so have all together
pub out_within : (z : Limits) (w : World) (a x : ℕ) → Inv z w → a < length w.accounts → need w a w.orders ≤ℤ ((account w a).cash -ℤ pos x) →
    x ≤ w.money
out_within z w a x i h e = omega (arith, ints, cash_within w a h i.rich, need_0 w a w.orders, i.cash)

-- the money after a message, by its reports
abbrev Flows : World → Message → World × List Report → Type 0
Flows w m y =
    y.0.money + pick (was_taken y.1) (pays_out m) 0 ≡ w.money + pick (was_taken y.1) (pays_in m) 0

flows_it : (z : Limits) (w : World) (m : Message) → Inv z w → Flows w m (says_it z w m)
unfolding says_it was_taken pays_in pays_out with_money with_orders
flows_it z w (pay_in a x) i = search rules
flows_it z w (pay_out a x) i =
    by_pick (Flows w (pay_out a x))
    (ltb a (length w.accounts) && (leb 1 x && le_z (need w a w.orders) ((account w a).cash -ℤ pos x))) _ _
    (λ e.
    let h : a < length w.accounts = grind arith in
    let t : le_z (need w a w.orders) ((account w a).cash -ℤ pos x) ≡ true = grind arith in
    let l = out_within z w a x i h (omega (arith, ints)) in
    omega arith)
    (λ e. omega arith)
flows_it z w (place a k s p q) i = search (rules, by_pick, money_placed)
flows_it z w (cancel a n) i = search rules
flows_it z w (end_day ps bs) i = search rules
flows_it z w begin_day i =
    by_pick (Flows w begin_day) w.trading _ _ (λ e. omega arith)
    (λ e. let t = tears_all z (length w.accounts) 0 w (omega arith) (record { inv = i; still = e }) in omega (arith, t.torn.money))

flows : (z : Limits) (w : World) (m : Message) → Inv z w → Flows w m (says z w m)
unfolding says was_taken
flows z w m i = by_pick (Flows w m) (z.built (kind m)) _ _ (λ e. flows_it z w m i) (λ e. omega arith)

flows_run : (z : Limits) (w : World) (ms : List Message) → Inv z w →
    (run z w ms).money + sum_taken pays_out ms (reports z w ms) ≡ w.money + sum_taken pays_in ms (reports z w ms)
unfolding run reports sum_taken
flows_run z w [] i = refl
flows_run z w (m ∷ ms) i = search (rules, flows, leads_says, flows_run z (says z w m).0 ms (leads_says z w m i).inv)

money_first : (z : Limits) (w : World) (ms : List Message) → Inv z w → w.money ≡ 0 → (run z w ms).money + sum_taken pays_out ms (reports z w ms)
    ≡ sum_taken pays_in ms (reports z w ms)
money_first z w ms i e = omega (arith, flows_run z w ms i)

nothing_paid : (is : List _) (n : ℕ) → (first is n).money ≡ 0
unfolding first
nothing_paid is n = refl

pub is_by_reports : CashByReports
unfolding CashByReports
is_by_reports z is n ms s =
    let i = inv_first z is n s in
    let e = money_first z (first is n) ms i (nothing_paid is n) in
    let d = (inv_run z (first is n) ms i).cash in
    omega (arith, ints)
