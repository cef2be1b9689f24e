-- `matched` from its first turn to its last: the market that it leaves is as it should be, and there are enough turns.
use Rattle.std.proofs.Common.{◌≡◌, ℕ, zero, suc, ◌-◌, ◌<◌, ◌≤◌, eqb, leb, ◌⊎◌, List, [], ◌∷◌, ◌++◌, length, get_or, sym, refl, ap, ◌∙◌, subst, arith, rules}
use Rattle.std.proofs.ByRecursion.{All-push}
use Rattle.std.proofs.lemmas.Bool.{leb-true, leb-false, eqb-false}
use Rattle.std.proofs.lemmas.List.{length_push}
use Rattle.venue.proofs.Carrying.{items_traded, many_traded, orders_traded, turn_trades}
use Rattle.venue.proofs.Covering.{cover_less}
use Rattle.venue.proofs.Crossing.{best_meets, best_none, calm_push}
use Rattle.venue.proofs.Margins.{rich_from}
use Rattle.venue.proofs.Numbers.{rising_higher, rising_push}
use Rattle.venue.proofs.Orders.{one_less}
use Rattle.venue.proofs.Picks.{by_pick, lesser_left, lesser_right}
use Rattle.venue.proofs.Released.{buys_push, sells_push, standing_push}
use Rattle.venue.specs.Invariant.{Inv}
use Rattle.venue.specs.Turn.{Turn, exchanged, partner}
use Rattle.venue.specs.World.{Limits, Order, Report, World, account, best, less_left, lesser, matched, need, no_order, taken, traded, with_orders}

-- w leads to v: v is as a market should be, with as many items and accounts
pub record Leads (z : Limits) (w v : World) : Type 0 where
  pub inv : Inv z v
  pub items : length v.items ≡ length w.items
  pub accounts : length v.accounts ≡ length w.accounts

pub leads_same : (z : Limits) (w : World) → Inv z w → Leads z w w
leads_same z w i = record { inv = i; items = refl; accounts = refl }

module _ (z : Limits) (w : World) (o : Order) (t : Turn z w o) where
  -- the turn with the order that `best` names
  pub turn_goes : best o w.orders < length w.orders →
      Turn z (traded w o (partner w o) (best o w.orders) (exchanged w o)) (less_left o (exchanged w o))
  turn_goes h = search (rules, turn_trades, best_meets, lesser_left, lesser_right)

  -- without what is left of the order the market is as it should be: so it is once nothing is left
  pub turn_done : Inv z w
  turn_done =
      let c = cover_less w (w.orders ++ o ∷ []) w.orders
      (λ c k i. (omega (arith, buys_push c k i w.orders o), omega (arith, sells_push c k i w.orders o))) t.cover in
      let r = rich_from w (w.orders ++ o ∷ []) t.cover in
      let n = rising_higher 1 w.orders o.number w.next (omega (arith, t.number)) t.numbers in
      search (rules, c, r, n, standing_push)

  -- what is left of it stands, since it meets no order
  pub turn_stands : 1 ≤ o.left → length w.orders ≤ best o w.orders → Inv z (with_orders w (w.orders ++ o ∷ []))
  unfolding with_orders need account
  turn_stands h b = search (rules, All-push, rising_push, rich_from, calm_push, best_none, length_push)

-- f turns are enough for n standing orders and l left: a turn uses up a standing order or the one being placed
abbrev pub Enough : ℕ → ℕ → ℕ → Type 0
Enough f n l = (n < f) ⊎ ((l ≡ 0) × (1 ≤ f))

pub none_left : (n l : ℕ) → Enough 0 n l → ⊥
none_left n l h = omega arith

-- after a turn one fewer is enough
pub enough_less : (f j : ℕ) (o : Order) (os : List Order) → j < length os → (o.left ≡ 0 → ⊥) → Enough (suc f) (length os) o.left →
    Enough f (length (taken j (lesser o.left (get_or os j no_order).left) os)) (o.left - lesser o.left (get_or os j no_order).left)
enough_less f j o os h ne fu = search (rules, by_pick, one_less)

pub leads_orders : (z : Limits) (w : World) (os : List Order) → Inv z (with_orders w os) → Leads z w (with_orders w os)
unfolding with_orders
leads_orders z w os i = record { inv = i; items = refl; accounts = refl }

leads_on : (z : Limits) (w v u : World) → v.items ≡ w.items → length v.accounts ≡ length w.accounts → Leads z v u → Leads z w u
leads_on z w v u e d l = record { inv = l.inv; items = l.items ∙ ap length e; accounts = l.accounts ∙ d }

-- an order is carried out as far as it goes
pub leads_matched : (z : Limits) (f : ℕ) (w : World) (o : Order) → Enough f (length w.orders) o.left → Turn z w o → Leads z w (matched f w o).0
unfolding matched less_left
leads_matched z zero w o h t = absurd (none_left (length w.orders) o.left h)
leads_matched z (suc f) w o h t =
    by_pick (λ (y : World × List Report). Leads z w y.0) (eqb o.left 0) _ _ (λ e. leads_same z w (turn_done z w o t))
    (λ e. by_pick (λ (y : World × List Report). Leads z w y.0) (leb (length w.orders) (best o w.orders)) _ _
    (λ g. leads_orders z w (w.orders ++ o ∷ []) (turn_stands z w o t (let n = eqb-false o.left 0 e in omega arith) (leb-true _ _ g)))
    (λ g.
    let j = best o w.orders in
    let r = partner w o in
    let x = exchanged w o in
    let l : j < length w.orders = leb-false _ _ g in
    leads_on z w (traded w o r j x) _ (items_traded w o r j x) (many_traded w o r j x)
    (leads_matched z f (traded w o r j x) (less_left o x)
    (subst (λ (os : List Order). Enough f (length os) (o.left - x)) (sym (orders_traded w o r j x))
    (enough_less f j o w.orders l (eqb-false o.left 0 e) h))
    (turn_goes z w o t l))))
