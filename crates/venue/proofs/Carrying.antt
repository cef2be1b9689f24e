-- One turn: a trade of the order being placed with a standing one, and how the turns end.
use Rattle.std.proofs.Common.{◌≡◌, ℕ, ◌<◌, ◌≤◌, Bool, true, List, [], ◌∷◌, ◌++◌, length, get_or, sym, ap, ◌∙◌, subst, arith, rules}
use Rattle.std.specs.List.{AllByRecursion}
use Rattle.std.proofs.ByRecursion.{All-get_or}
use Rattle.venue.proofs.Covering.{paid_cover}
use Rattle.venue.proofs.Crossing.{calm_taken}
use Rattle.venue.proofs.Gets.{many_gets}
use Rattle.venue.proofs.Numbers.{rising_taken}
use Rattle.venue.proofs.Orders.{all_taken, few_taken}
use Rattle.venue.proofs.Trades.{Fit, fit_meets, traded_is, two_get, two_paid, two_swapped, two_within}
use Rattle.venue.proofs.Weights.{less_last, less_taken}
use Rattle.venue.specs.Invariant.{Left, Placed, Within}
use Rattle.venue.specs.Trade.{PaidFor}
use Rattle.venue.specs.Turn.{Turn}
use Rattle.venue.specs.World.{Item, Limits, Order, World, account, gets, is_buy, less_left, meets, need, no_order, taken, traded, with_account}
use Rattle.venue.specs.World.{with_orders}

pub left_taken : (j x : ℕ) (os : List Order) → AllByRecursion Left os → AllByRecursion Left (taken j x os)
unfolding less_left
left_taken j x os f = all_taken Left (λ o y h l. (omega arith, omega (arith, h.1))) j x os f

placed_taken : (n : ℕ) (is : List Item) (j x : ℕ) (os : List Order) → AllByRecursion (Placed n is) os → AllByRecursion (Placed n is) (taken j x os)
unfolding less_left
placed_taken n is j x os f = all_taken (Placed n is) (λ o y h l. h) j x os f

-- limits and payments ask nothing of the list of standing orders
same_within : (H : ℕ) (w : World) (os ps : List Order) → Within H w os → Within H (with_orders w ps) os
unfolding account with_orders
same_within H w os ps v = v

same_paid : (w v : World) (os ps qs : List Order) → PaidFor (with_orders w qs) os v ps → PaidFor w os v ps
unfolding need account with_orders
same_paid w v os ps qs f = f

pub orders_traded : (w : World) (o r : Order) (j x : ℕ) → (traded w o r j x).orders ≡ taken j x w.orders
unfolding gets with_account with_orders
orders_traded w o r j x = search (rules, traded_is)

pub items_traded : (w : World) (o r : Order) (j x : ℕ) → (traded w o r j x).items ≡ w.items
unfolding gets with_account with_orders
items_traded w o r j x = ap (λ (v : World). v.items) (traded_is w o r j x)

pub many_traded : (w : World) (o r : Order) (j x : ℕ) → length (traded w o r j x).accounts ≡ length w.accounts
unfolding with_orders
many_traded w o r j x = search (rules, traded_is, many_gets)

-- o, the order being placed, trades x with the order in place j, which it meets
module _ (z : Limits) (w : World) (o : Order) (j x : ℕ) (t : Turn z w o) (l : j < length w.orders)
    (m : meets o (get_or w.orders j no_order) ≡ true) (lo : x ≤ o.left) (lr : x ≤ (get_or w.orders j no_order).left) where
  abbrev r : Order
  r = get_or w.orders j no_order

  abbrev b : Bool
  b = is_buy o.side

  abbrev w0 : World
  w0 = with_orders w (taken j x w.orders)

  fit : Fit w0 o r b
  unfolding with_orders
  fit = search (rules, fit_meets, All-get_or)

  paid : PaidFor w (w.orders ++ o ∷ []) (two_get w0 o r x b) (taken j x w.orders ++ less_left o x ∷ [])
  paid =
      same_paid w (two_get w0 o r x b) (w.orders ++ o ∷ []) (taken j x w.orders ++ less_left o x ∷ []) (taken j x w.orders)
      (two_paid w0 o r x b fit (w.orders ++ o ∷ []) (w.orders ++ less_left o x ∷ []) (taken j x w.orders ++ less_left o x ∷ [])
      (less_last w.orders o x lo) (less_taken j x w.orders (less_left o x) l lr))

  -- nobody's need grows by more than that account's money
  pub trade_paid : PaidFor w (w.orders ++ o ∷ []) (traded w o r j x) ((traded w o r j x).orders ++ less_left o x ∷ [])
  trade_paid = search (rules, orders_traded, traded_is, paid)

  -- and all holds that the next turn needs
  two_turn : Turn z (two_get w0 o r x b) (less_left o x)
  unfolding gets with_account with_orders less_left
  two_turn =
      let s = two_swapped w0 o r x b fit in
      record {
        wide = s.wide (length w.items) t.wide;
        placed = subst (λ (n : ℕ). AllByRecursion (Placed n w.items) (taken j x w.orders)) (sym s.many)
            (placed_taken (length w.accounts) w.items j x w.orders t.placed);
        order = subst (λ (n : ℕ). Placed n w.items o) (sym s.many) t.order;
        left = left_taken j x w.orders t.left;
        most = omega (arith, t.most);
        numbers = rising_taken 1 j x w.orders o.number t.numbers;
        number = t.number;
        cash = s.cash ∙ t.cash;
        held = λ k. s.held k ∙ t.held k;
        cover = paid_cover w (two_get w0 o r x b) (w.orders ++ o ∷ []) (taken j x w.orders ++ less_left o x ∷ []) s.many paid t.cover;
        calm = calm_taken j x w.orders t.calm;
        items = t.items;
        holds =
            two_within w0 o r x b fit z.holding
            (w.orders ++ o ∷ []) (w.orders ++ less_left o x ∷ []) (taken j x w.orders ++ less_left o x ∷ [])
            (less_last w.orders o x lo) (less_taken j x w.orders (less_left o x) l lr)
            (same_within z.holding w (w.orders ++ o ∷ []) (taken j x w.orders) t.holds);
        room = omega (arith, few_taken j x w.orders, t.room);
        money = t.money;
        next = t.next;
        trading = t.trading;
      }

  pub turn_trades : Turn z (traded w o r j x) (less_left o x)
  turn_trades = subst (λ (v : World). Turn z v (less_left o x)) (sym (traded_is w o r j x)) two_turn
