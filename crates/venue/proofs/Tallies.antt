-- What accounts hold, from messages and reports alone.
use Rattle.std.proofs.Common.{◌≡◌, ℕ, zero, suc, ◌+◌, ◌-◌, ◌<◌, ◌&&◌, eqb, ltb, leb, ◌≢◌, List, [], ◌∷◌, length, get_or, replicate, ℤ, pos, ◌+ℤ◌, ◌-ℤ◌, sym, refl, ap, subst, arith, rules}
use lib.Signed.{le_z}
use Rattle.std.proofs.lemmas.Int.{ints}
use Rattle.std.proofs.ByRecursion.{All-weaker}
use Rattle.std.proofs.lemmas.Bool.Decides.{nat_tests}
use Rattle.std.proofs.lemmas.Bool.{eq-eqb}
use Rattle.venue.proofs.Evening.{holds_paid}
use Rattle.venue.proofs.Messages.{leads_says}
use Rattle.venue.proofs.Runs.{held_none, inv_first}
use Rattle.venue.proofs.Numbers.{numbers_below}
use Rattle.venue.proofs.TearAll.{tears_all}
use Rattle.venue.proofs.Turns.{turn_starts}
use Rattle.venue.specs.Invariant.{Inv}
use Rattle.venue.specs.Tearing.{Tearing}
use Rattle.venue.specs.Turn.{may_place}
use Rattle.venue.proofs.Orders.{all_without}
use Rattle.venue.proofs.Picks.{by_pick}
use Rattle.venue.specs.Morning.{sum_over}
use Rattle.venue.specs.Positions.{HeldByReports, change, changes, number_of, owners}
use Rattle.venue.proofs.Mornings.{steps_all}
use Rattle.venue.specs.World.{Item, Limits, Message, Order, Report, Side, World, account, begin_day, cancel, counted, done, end_day, first, held}
use Rattle.venue.specs.World.{kind, matched, need, new_order, no, nobody, number_at, pay_in, pay_out, pick, place, prices_fit, reports, run, says}
use Rattle.venue.specs.World.{says_it, tear_all, with_account, with_money, with_orders, without}
use Rattle.venue.proofs.Tally.{Owned, cash_held, numbers_from, owned_other, tally_new, tally_steps}

-- a message leads to y: holdings by its reports, and owners by it and its reports
abbrev Tallies : (ℕ → ℕ) → World → Message → World × List Report → Type 0
Tallies own w m y =
    ((c k : ℕ) → held (account y.0 c) k ≡ held (account w c) k +ℤ sum_over (change (owners own m y.1) c k m) y.1)
    × Owned (owners own m y.1) y.0.orders

same_held : (h h' : ℤ) → h ≡ h' → h ≡ h' +ℤ (pos 0 +ℤ pos 0)
same_held h h' e = omega (arith, ints)

after_done : (h h' y : ℤ) → h ≡ h' +ℤ y → h ≡ h' +ℤ (pos 0 +ℤ y)
after_done h h' y e = omega (arith, ints)

module _ (z : Limits) (own : ℕ → ℕ) (w : World) (i : Inv z w) (f : Owned own w.orders) where
  -- a refusal
  tallies_no : (m : Message) → Tallies own w m (w, no ∷ [])
  unfolding owners change sum_over number_of
  tallies_no (place a k s p q) = search (rules, owned_other, All-weaker, numbers_from)
  tallies_no m = search rules

  tallies_place : (a k : ℕ) (s : Side) (p q : ℕ) → Tallies own w (place a k s p q) (says_it z w (place a k s p q))
  unfolding says_it owners number_of sum_over change
  tallies_place a k s p q =
      by_pick (Tallies own w (place a k s p q)) (may_place z w a k s p q) _ _
      (λ e.
      let o = new_order w a k s p q in
      let own' = (λ (j : ℕ). pick (eqb j w.next) a (own j)) in
      let g : Owned own' w.orders = owned_other own a w.next w.orders
      (All-weaker (λ (o : Order). o.number < w.next) (λ (o : Order). o.number ≢ w.next) (λ o h d. omega arith) w.orders
      (numbers_below 1 w.orders w.next i.numbers)) f in
      let t = λ (c j : ℕ). tally_new z w own' c j a k s p q (turn_starts z w a k s p q i e) (rw (eq-eqb w.next w.next refl) refl) g in (
        λ c j. after_done _ (held (account w c) j)
            (sum_over (change own' c j (place a k s p q)) (matched (suc (length w.orders)) (counted w) o).1) (t c j).0,
        (t 0 0).1,
      ))
      (λ e. tallies_no (place a k s p q))

  tallies_it : (m : Message) → Tallies own w m (says_it z w m)
  unfolding says_it owners change sum_over with_orders with_money with_account account held
  tallies_it (pay_in a x) =
      by_pick (Tallies own w (pay_in a x)) (ltb a (length w.accounts) && (leb 1 x && leb (w.money + x) z.money)) _ _
      (λ e. let h : a < length w.accounts = grind (arith, nat_tests) in
      (λ c k. same_held _ _ (cash_held w a (w.money + x) ((account w a).cash +ℤ pos x) c k h), f)) (λ e. tallies_no (pay_in a x))
  tallies_it (pay_out a x) =
      by_pick (Tallies own w (pay_out a x)) (ltb a (length w.accounts) && (leb 1 x && le_z (need w a w.orders) ((account w a).cash -ℤ pos x))) _ _
      (λ e. let h : a < length w.accounts = grind arith in
      (λ c k. same_held _ _ (cash_held w a (w.money - x) ((account w a).cash -ℤ pos x) c k h), f)) (λ e. tallies_no (pay_out a x))
  tallies_it (place a k s p q) = tallies_place a k s p q
  tallies_it (cancel a n) =
      by_pick (Tallies own w (cancel a n)) (ltb (number_at a n w.orders) (length w.orders))
      (with_orders w (without (number_at a n w.orders) w.orders), done 0 ∷ []) (w, no ∷ [])
      (λ e. (λ c k. same_held _ _ refl, all_without (λ (o : Order). own o.number ≡ o.account) (number_at a n w.orders) w.orders f))
      (λ e. tallies_no (cancel a n))
  tallies_it (end_day ps bs) =
      by_pick (Tallies own w (end_day ps bs)) (w.trading && prices_fit w.items ps bs) _ _
      (λ e. (λ c k. same_held _ _ (ap (λ (hs : List ℤ). get_or hs k (pos 0)) (holds_paid w.items ps w.accounts c)), tt))
      (λ e. tallies_no (end_day ps bs))
  tallies_it begin_day =
      by_pick (Tallies own w begin_day) w.trading _ _ (λ e. tallies_no begin_day)
      (λ e.
      let g : Tearing z w = record { inv = i; still = e } in (
        λ c k. after_done _ (held (account w c) k) (sum_over (change own c k begin_day) (tear_all (length w.accounts) 0 w).1)
            (tally_steps own w _ _ c k (steps_all z (length w.accounts) 0 w (omega arith) g)),
        subst (Owned own) (sym (tears_all z (length w.accounts) 0 w (omega arith) g).torn.orders) f,
      ))

tallies : (z : Limits) (own : ℕ → ℕ) (w : World) (m : Message) → Inv z w → Owned own w.orders → Tallies own w m (says z w m)
unfolding says
tallies z own w m i f =
    by_pick (Tallies own w m) (z.built (kind m)) _ _ (λ e. tallies_it z own w i f m) (λ e. tallies_no z own w i f m)

tallies_run : (z : Limits) (own : ℕ → ℕ) (w : World) (ms : List Message) (c k : ℕ) → Inv z w → Owned own w.orders →
    held (account (run z w ms) c) k ≡ held (account w c) k +ℤ changes own c k ms (reports z w ms)
unfolding run reports changes
tallies_run z own w [] c k i f = omega (arith, ints)
tallies_run z own w (m ∷ ms) c k i f =
    let t = tallies z own w m i f in
    let r = tallies_run z (owners own m (says z w m).1) (says z w m).0 ms c k (leads_says z w m i).inv t.1 in
    let h = t.0 c k in
    omega (arith, ints)

holds_none : (n m c k : ℕ) → held (get_or (replicate n (record { cash = pos 0; holds = replicate m (pos 0) })) c nobody) k ≡ pos 0
unfolding held
holds_none zero m c k = refl
holds_none (suc n) m zero k = held_none m k
holds_none (suc n) m (suc c) k = holds_none n m c k

first_none : (is : List Item) (n c k : ℕ) → held (account (first is n) c) k ≡ pos 0
unfolding first account
first_none is n c k = holds_none n (length is) c k

none_stand : (own : ℕ → ℕ) (is : List Item) (n : ℕ) → Owned own (first is n).orders
unfolding first
none_stand own is n = tt

pub is_held_by_reports : HeldByReports
unfolding HeldByReports
is_held_by_reports z is n c k ms s =
    let e = tallies_run z (λ (m : ℕ). 0) (first is n) ms c k (inv_first z is n s) (none_stand (λ (m : ℕ). 0) is n) in
    let d = first_none is n c k in
    omega (arith, ints)
