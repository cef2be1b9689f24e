-- When an order is taken, and how it is carried out.
use Rattle.std.proofs.Common.{◌≡◌, ℕ, zero, suc, ◌-◌, ◌<◌, ◌≤◌, eqb, leb, ◌⊎◌, List, [], ◌∷◌, length, sym, refl, subst, inl, arith, rules}
use Rattle.std.proofs.ByRecursion.{All-get_or}
use Rattle.std.proofs.lemmas.Bool.{both_ways, eqb-true, eqb-false, leb-true, leb-false}
use Rattle.venue.proofs.Carrying.{orders_traded}
use Rattle.venue.proofs.Matching.{Enough, enough_less, none_left, turn_goes}
use Rattle.venue.proofs.Numbers.{numbers_below}
use Rattle.venue.proofs.Picks.{by_pick, lesser_either}
use Rattle.venue.proofs.Priorities.{is_first_for}
use Rattle.venue.proofs.Sounds.{sound_inv}
use Rattle.std.specs.Bool.{Decides}
use Rattle.venue.proofs.Trades.{traded_is}
use Rattle.venue.proofs.Turns.{turn_starts}
use Rattle.venue.specs.Invariant.{Left, Placed}
use Rattle.venue.specs.Placing.{Carried, Exchanged, MayPlace, PlaceCarried, PlaceTaken, TradesWith, all_gone, stands, trades}
use Rattle.venue.specs.Priority.{BestIsFirst}
use Rattle.venue.specs.Turn.{Turn, exchanged, may_place, partner}
use Rattle.venue.specs.World.{Limits, Order, Report, Side, World, best, counted, covered, done, is_buy, kind, less_left, lesser}
use Rattle.venue.specs.World.{matched, new_order, no, no_order, pick, says, says_it, taken, traded, with_orders}
use Rattle.venue.proofs.Exchanges.{exchanged_same, two_exchanged}

of_may : (z : Limits) (w : World) (a k : ℕ) (s : Side) (p q : ℕ) → Decides (may_place z w a k s p q) (MayPlace z w a k s p q)
unfolding covered new_order
of_may z w a k s p q = search rules

pub is_place_taken : PlaceTaken
unfolding PlaceTaken says says_it kind
is_place_taken z w a k s p q b =
    let t = of_may z w a k s p q in
    rw b (
      λ m. by_pick (λ (y : World × List Report). (rs : List Report) × (y.1 ≡ done w.next ∷ rs)) (may_place z w a k s p q) _ _
          (λ e. (_, refl)) (λ e. absurd (both_ways _ e (t.1 m))),
      λ m. by_pick (λ (y : World × List Report). y.1 ≡ no ∷ []) (may_place z w a k s p q) _ _ (λ e. absurd (m (t.0 e))) (λ e. refl),
    )

smaller : (a b : ℕ) → ((lesser a b ≡ a) × (lesser a b ≤ b)) ⊎ ((lesser a b ≡ b) × (lesser a b ≤ a))
smaller a b = search rules

module _ (z : Limits) where
  one_trade : (w : World) (o : Order) → Turn z w o → 1 ≤ o.left → best o w.orders < length w.orders →
      TradesWith w (traded w o (partner w o) (best o w.orders) (exchanged w o)) o (partner w o) (best o w.orders) (exchanged w o)
  unfolding BestIsFirst with_orders
  one_trade w o t h l =
      let j = best o w.orders in
      let r = partner w o in
      let x = exchanged w o in
      let os = taken j x w.orders in
      let q = All-get_or (Placed (length w.accounts) w.items) w.orders j no_order l t.placed in
      let m = (All-get_or Left w.orders j no_order l t.left).0 in
      record {
        first = (is_first_for o w.orders).0 l;
        older = All-get_or (λ (r : Order). r.number < o.number) w.orders j no_order l (numbers_below 1 w.orders o.number t.numbers);
        some = omega (arith, lesser_either o.left r.left);
        most = smaller o.left r.left;
        orders = orders_traded w o r j x;
        moved =
            subst (λ (v : World). Exchanged w v (pick (is_buy o.side) o.account r.account) (pick (is_buy o.side) r.account o.account) o.item r.price x)
            (sym (traded_is w o r j x))
            (exchanged_same w _ os _ _ o.item r.price x
            (two_exchanged (with_orders w os) o r x t.wide t.order.0 q.0 t.order.1 (is_buy o.side)));
      }

  carries : (f : ℕ) (w : World) (o : Order) → Enough f (length w.orders) o.left → Turn z w o → Carried w o (matched f w o).1 (matched f w o).0
  unfolding matched less_left BestIsFirst
  carries zero w o h t = absurd (none_left (length w.orders) o.left h)
  carries (suc f) w o h t =
      by_pick (λ (y : World × List Report). Carried w o y.1 y.0) (eqb o.left 0) _ _ (λ e. all_gone (eqb-true o.left 0 e))
      (λ e.
      let p : 1 ≤ o.left = (let n = eqb-false o.left 0 e in omega arith) in
      by_pick (λ (y : World × List Report). Carried w o y.1 y.0) (leb (length w.orders) (best o w.orders)) _ _
      (λ g. stands p ((is_first_for o w.orders).1.0 (leb-true _ _ g)))
      (λ g.
      let j = best o w.orders in
      let r = partner w o in
      let x = exchanged w o in
      let l : j < length w.orders = leb-false _ _ g in
      trades j x (one_trade w o t p l)
      (carries f (traded w o r j x) (less_left o x)
      (subst (λ (os : List Order). Enough f (length os) (o.left - x)) (sym (orders_traded w o r j x))
      (enough_less f j o w.orders l (eqb-false o.left 0 e) h))
      (turn_goes z w o t l))))

  pub placed : (w : World) (o : Order) → Turn z (counted w) o →
      Carried (counted w) o (matched (suc (length w.orders)) (counted w) o).1 (matched (suc (length w.orders)) (counted w) o).0
  unfolding counted
  placed w o t = carries (suc (length w.orders)) (counted w) o (inl (omega arith)) t

-- by the reports
abbrev Carries : World → Order → ℕ → World × List Report → Type 0
Carries w o n y = (rs : List Report) → y.1 ≡ done n ∷ rs → Carried (counted w) o rs y.0

refused : (w : World) (o : Order) (n : ℕ) → Carries w o n (w, no ∷ [])
refused w o n rs e = absurd cc

pub is_place_carried : PlaceCarried
unfolding PlaceCarried says says_it kind new_order
is_place_carried z w a k s p q rs i =
    let o = new_order w a k s p q in
    by_pick (Carries w o w.next) (z.built 3) _ _
    (λ b. by_pick (Carries w o w.next) (may_place z w a k s p q) _ _
    (λ e qs d. subst (λ (r : List Report). Carried (counted w) o r (matched (suc (length w.orders)) (counted w) o).0) (cc)
    (placed z w o (turn_starts z w a k s p q (sound_inv z w i) e)))
    (λ e. refused w o w.next))
    (λ b. refused w o w.next) rs
