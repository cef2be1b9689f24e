-- How many reports a message has at most.
use Rattle.std.proofs.Common.{suc, ◌+◌, ◌*◌, ◌≤◌, max, Bool, List, [], ◌∷◌, length, arith, rules}
use Rattle.venue.proofs.Picks.{by_pick}
use Rattle.venue.proofs.Sounds.{sound_inv}
use Rattle.venue.proofs.TearReports.{tears_le}
use Rattle.venue.proofs.TradeReports.{trades_le}
use Rattle.venue.specs.Invariant.{Inv}
use Rattle.venue.specs.Sound.{Sound}
use Rattle.venue.specs.World.{Limits, Message, Order, Report, World, begin_day, cancel, counted, end_day, matched, pay_in, pay_out}
use Rattle.venue.specs.World.{pick, place, says, says_it}

-- one report, and a trade for each order or a tear-up for each holding
abbrev pub Few : Limits → World → List Report → Type 0
Few z w rs = length rs ≤ 1 + max z.orders (length w.accounts * length w.items)

placed_reports : (w : World) (o : Order) → length (matched (suc (length w.orders)) (counted w) o).1 ≤ length w.orders
unfolding counted
placed_reports w o = trades_le (suc (length w.orders)) (counted w) o

-- done or refused, and nothing else
one_report : (z : Limits) (w : World) (b : Bool) (x y : World) (r s : Report) → Few z w (pick {A = World × List Report} b (x, r ∷ []) (y, s ∷ [])).1
one_report z w b x y r s = by_pick (λ (y : World × List Report). Few z w y.1) b (x, r ∷ []) (y, s ∷ []) (λ e. omega arith) (λ e. omega arith)

reports_it : (z : Limits) (w : World) (m : Message) → Inv z w → Few z w (says_it z w m).1
unfolding says_it
reports_it z w (pay_in a x) i = one_report z w _ _ _ _ _
reports_it z w (pay_out a x) i = one_report z w _ _ _ _ _
reports_it z w (place a k s p q) i = search (rules, by_pick, placed_reports)
reports_it z w (cancel a n) i = one_report z w _ _ _ _ _
reports_it z w (end_day ps bs) i = one_report z w _ _ _ _ _
reports_it z w begin_day i =
    by_pick (λ (y : World × List Report). Few z w y.1) w.trading _ _ (λ e. omega arith)
    (λ e. omega (arith, tears_le z w (record { inv = i; still = e })))

pub says_reports : (z : Limits) (w : World) (m : Message) → Sound z w →
    length (says z w m).1 ≤ 1 + max z.orders (length w.accounts * length w.items)
unfolding says
says_reports z w m s = search (rules, by_pick, reports_it, sound_inv)
