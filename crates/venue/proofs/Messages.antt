-- Every message leads to a market that is as it should be, with as many items and accounts.
use Rattle.std.proofs.Common.{◌≡◌, true, ℕ, suc, ◌&&◌, ltb, leb, List, length, pos, ◌-ℤ◌, refl, inl, arith, rules}
use Rattle.std.proofs.lemmas.Int.{ints}
use lib.Signed.{le_z}
use Rattle.std.proofs.lemmas.Bool.{and_parts}
use Rattle.venue.proofs.Covering.{cover_less}
use Rattle.venue.proofs.Crossing.{calm_without}
use Rattle.venue.proofs.Days.{leads_begin_day, leads_end_day}
use Rattle.venue.proofs.Matching.{Leads, leads_matched, leads_same}
use Rattle.venue.proofs.Numbers.{rising_without}
use Rattle.venue.proofs.Orders.{all_without, few_without, without_none}
use Rattle.venue.proofs.Payments.{leads_pay_in, leads_pay_out}
use Rattle.venue.proofs.Picks.{by_pick}
use Rattle.venue.proofs.Released.{buys_without, sells_without, standing_without}
use Rattle.venue.proofs.Turns.{turn_starts}
use Rattle.venue.specs.Invariant.{Inv}
use Rattle.venue.specs.Turn.{Turn, may_place}
use Rattle.venue.specs.World.{Limits, Message, Order, Report, World, account, begin_day, cancel, counted, end_day, matched, need, new_order}
use Rattle.venue.specs.World.{number_at, pay_in, pay_out, place, prices_fit, says, says_it, with_orders, without}

-- an order is taken back
leads_cancel : (z : Limits) (w : World) (j : ℕ) → Inv z w → Leads z w (with_orders w (without j w.orders))
unfolding with_orders need account
leads_cancel z w j i =
    let c = λ (t : w.trading ≡ true). cover_less w w.orders (without j w.orders)
    (λ c k i. (buys_without c k i j w.orders, sells_without c k i j w.orders)) (i.cover t) in
    let f = few_without j w.orders in
    record {
      inv = search (rules, c, all_without, rising_without, without_none, calm_without, standing_without);
      items = refl;
      accounts = refl;
    }

-- an order is placed
leads_placed : (z : Limits) (w : World) (o : Order) → Turn z (counted w) o → Leads z w (matched (suc (length w.orders)) (counted w) o).0
unfolding counted
leads_placed z w o t =
    let l = leads_matched z (suc (length w.orders)) (counted w) o (inl (omega arith)) t in
    record { inv = l.inv; items = l.items; accounts = l.accounts }

pub leads_says_it : (z : Limits) (w : World) (m : Message) → Inv z w → Leads z w (says_it z w m).0
unfolding says_it
leads_says_it z w (pay_in a x) i = grind (arith, ints, by_pick, leads_pay_in, leads_same)
leads_says_it z w (pay_out a x) i =
    by_pick (λ (y : World × List Report). Leads z w y.0)
    (ltb a (length w.accounts) && (leb 1 x && le_z (need w a w.orders) ((account w a).cash -ℤ pos x))) _ _
    (λ e. leads_pay_out z w a x i e) (λ e. leads_same z w i)
leads_says_it z w (place a k s p q) i =
    by_pick (λ (y : World × List Report). Leads z w y.0) (may_place z w a k s p q) _ _
    (λ e. leads_placed z w (new_order w a k s p q) (turn_starts z w a k s p q i e)) (λ e. leads_same z w i)
leads_says_it z w (cancel a n) i =
    by_pick (λ (y : World × List Report). Leads z w y.0) (ltb (number_at a n w.orders) (length w.orders)) _ _
    (λ e. leads_cancel z w (number_at a n w.orders) i) (λ e. leads_same z w i)
leads_says_it z w (end_day ps bs) i =
    by_pick (λ (y : World × List Report). Leads z w y.0) (w.trading && prices_fit w.items ps bs) _ _
    (λ e. let q = and_parts w.trading (prices_fit w.items ps bs) e in leads_end_day z w ps bs i q.0 q.1) (λ e. leads_same z w i)
leads_says_it z w begin_day i =
    by_pick (λ (y : World × List Report). Leads z w y.0) w.trading _ _ (λ e. leads_same z w i) (λ e. leads_begin_day z w i e)

-- also one of a kind that there isn't yet
pub leads_says : (z : Limits) (w : World) (m : Message) → Inv z w → Leads z w (says z w m).0
unfolding says
leads_says z w m i = search (rules, by_pick, leads_says_it, leads_same)
