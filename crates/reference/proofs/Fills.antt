-- An order is filled turn by turn.
use Rattle.std.proofs.Common.{◌≡◌, ℕ, zero, suc, ◌-◌, ◌<◌, ◌≤◌, Bool, true, false, leb, min, List, [], ◌∷◌, ◌++◌, length, get_or, sym, refl, ap, ◌∙◌, ⊎_elim, append_assoc, append-nil, le_of_suc-le-suc, arith}
use Rattle.std.proofs.ByRecursion.{All-get_or}
use Rattle.std.proofs.lemmas.Bool.{cases_Bool, cases_lt, eq-eqb, ne_eqb, le-leb, lt-leb}
use Rattle.std.proofs.lemmas.Bool.Decides.{nat_tests}
use Rattle.venue.specs.World.{World, Order, Report, pick, is_buy, gets, traded, taken, with_orders, with_account, matched, best, less_left, lesser}
use Rattle.venue.specs.World.{trade, no_order}
use Rattle.venue.specs.Invariant.{Left}
use Rattle.venue.specs.Ranges.{OrderRange}
use Rattle.venue.specs.Sizes.{Small}
use Rattle.venue.proofs.Matching.{turn_goes}
use Rattle.venue.proofs.RangesMarket.{turn_range}
use Rattle.reference.specs.Conditions.{Filling, Roomy}
use Rattle.reference.specs.Means.{limits_of}
use Rattle.reference.specs.Parts.{after, filled}
use Rattle.reference.specs.declared.limits.Limits.{Limits}
use Rattle.reference.proofs.Ranges.{turn_roomy}

orders_either : (b : Bool) (u v : World) (os : List Order) → u.orders ≡ os → v.orders ≡ os → (pick b u v).orders ≡ os
orders_either true u v os p q = p
orders_either false u v os p q = q

-- a trade leaves the orders that `taken` leaves
pub traded_orders : (w : World) (o r : Order) (j x : ℕ) → (traded w o r j x).orders ≡ taken j x w.orders
unfolding traded gets with_account with_orders
traded_orders w o r j x = orders_either (is_buy o.side) _ _ (taken j x w.orders) refl refl

pub length_taken : (j x : ℕ) (os : List Order) → j < length os → length (taken j x os) ≡ pick (leb (get_or os j no_order).left x) (length os - 1)
    (length os)
unfolding taken
length_taken j x [] h = absurd (omega arith)
length_taken zero x (o ∷ os) h = ⊎_elim (λ e. rw e (omega arith)) (λ e. rw e) (cases_Bool (leb o.left x))
length_taken (suc j) x (o ∷ os) h = let e = length_taken j x os (le_of_suc-le-suc h) in let k = h in grind (arith, nat_tests)

-- nothing is left of the order
pub matched_done : (n : ℕ) (w : World) (o : Order) → 0 < n → o.left ≡ 0 → matched n w o ≡ (w, [])
unfolding matched
matched_done zero w o h e = absurd (omega arith)
matched_done (suc n) w o h e = rw (eq-eqb o.left 0 e)

pub filled_done : (w : World) (o : Order) → o.left ≡ 0 → filled w o ≡ (w, [])
unfolding filled
filled_done w o e = matched_done (suc (length w.orders)) w o (omega arith) e

-- no order meets it
pub filled_stands : (w : World) (o : Order) → (o.left ≡ 0 → ⊥) → length w.orders ≤ best o w.orders → filled w o ≡
    (with_orders w (w.orders ++ o ∷ []), [])
unfolding filled matched
filled_stands w o ne le = rw (ne_eqb o.left 0 ne, le-leb (length w.orders) (best o w.orders) le)

-- it trades with the first that meets it, and goes on
again : (w : World) (o r : Order) (j x : ℕ) → (o.left ≡ 0 → ⊥) → j < length w.orders → r ≡ get_or w.orders j no_order → x ≡ lesser o.left
    r.left →
    matched (length w.orders) (traded w o r j x) (less_left o x) ≡ filled (traded w o r j x) (less_left o x)
unfolding filled less_left
again w o r j x ne lt er ex =
    let n = traded_orders w o r j x in
    let l = length_taken j x w.orders lt in
    ⊎_elim
    (λ (some : x < r.left).
    let z : o.left - x ≡ 0 = grind (arith, nat_tests) in
    matched_done (length w.orders) (traded w o r j x) (less_left o x) (omega arith) z ∙
    sym (matched_done (suc (length (traded w o r j x).orders)) (traded w o r j x) (less_left o x) (omega arith) z))
    (λ (all : r.left ≤ x).
    let k : length w.orders ≡ suc (length (traded w o r j x).orders) = rw n (grind (arith, nat_tests)) in
    ap (λ m. matched m (traded w o r j x) (less_left o x)) k)
    (cases_lt x r.left)

one : (w : World) (o r : Order) (j x : ℕ) → (o.left ≡ 0 → ⊥) → j ≡ best o w.orders → j < length w.orders → r ≡ get_or w.orders j no_order →
    x ≡ lesser o.left r.left →
    filled w o ≡ after (trade o.number r.number o.item r.price x ∷ []) (matched (length w.orders) (traded w o r j x) (less_left o x))
unfolding filled matched after
one w o r j x ne ej lt er ex =
    rw (ex, er, ej, ne_eqb o.left 0 ne, lt-leb (length w.orders) (best o w.orders) (rw ej at lt))

pub filled_trades : (w : World) (o r : Order) (j x : ℕ) → (o.left ≡ 0 → ⊥) → j ≡ best o w.orders → j < length w.orders → r ≡ get_or w.orders
    j no_order →
    x ≡ lesser o.left r.left →
    filled w o ≡ after (trade o.number r.number o.item r.price x ∷ []) (filled (traded w o r j x) (less_left o x))
filled_trades w o r j x ne ej lt er ex = rw (← again w o r j x ne lt er ex) (one w o r j x ne ej lt er ex)

pub after_none : (rs : List Report) (w : World) → after rs (w, []) ≡ (w, rs)
unfolding after
after_none rs w = ap (λ qs. (w, qs)) (append-nil rs)

pub after_more : (rs : List Report) (r : Report) (p : World × List Report) → after rs (after (r ∷ []) p) ≡ after (rs ++ r ∷ []) p
unfolding after
after_more rs r p = ap (λ qs. (p.0, qs)) (sym (append_assoc rs (r ∷ []) p.1))

-- one turn of the loop
pub turn : (w w' : World) (o r : Order) (j x : ℕ) (rs : List Report) → (o.left ≡ 0 → ⊥) → j ≡ best o w.orders → j < length w.orders → r ≡ get_or
    w.orders j no_order →
    x ≡ lesser o.left r.left → w' ≡ traded w o r j x →
    after (rs ++ trade o.number r.number o.item r.price x ∷ []) (filled w' (less_left o x)) ≡ after rs (filled w o)
turn w w' o r j x rs ne ej lt er ex e =
    rw (e, ← after_more, ← filled_trades w o r j x ne ej lt er ex)

-- the market and the order of one turn, as the trade asks for them
pub record Ready (w : World) (o r : Order) : Type 0 where
  pub account : o.account < length w.accounts
  pub item : o.item < length w.items
  pub left : o.left ≤ 1000000
  pub other : r.account < length w.accounts
  pub price : r.price ≤ 2000000
  pub some : 1 ≤ r.left
  pub roomy : Roomy 1125899906842624 2147483648 w

-- the program's limits are ones that its numbers can hold
small : (l : Limits) (k : ℕ → Bool) → Small (limits_of l k)
small l k = record { orders = l.few; money = l.small; holding = refl }

pub ready : (l : Limits) (w : World) (o r : Order) (j : ℕ) → Filling l w o → j < length w.orders → r ≡ get_or w.orders j no_order → Ready w o r
ready l w o r j f h e =
    let z = limits_of l f.kinds in
    let s = small l f.kinds in
    let g = turn_range z w o s f.turn in
    let p = All-get_or (OrderRange (length w.accounts) (length w.items)) w.orders j no_order h g.0.orders in
    let l = All-get_or Left w.orders j no_order h f.turn.left in
    rw e (record {
      account = g.1.account;
      item = g.1.item;
      left = g.1.left;
      other = p.account;
      price = p.price;
      some = l.0;
      roomy = turn_roomy z w o s f.turn;
    })

-- one turn leaves an order that is being filled
pub fills_on : (l : Limits) (w v : World) (o r : Order) (j x : ℕ) → Filling l w o → j ≡ best o w.orders → j < length w.orders →
    r ≡ get_or w.orders j no_order → x ≡ lesser o.left r.left → v ≡ traded w o r j x → Filling l v (less_left o x)
fills_on l w v o r j x f ej lt er ex ev =
    let t = turn_goes (limits_of l f.kinds) w o f.turn (rw ej at lt) in
    record { kinds = f.kinds; turn = rw (ev, ex, er, ej) t }

pub lesser_min : (a b : ℕ) → min a b ≡ lesser a b
lesser_min a b = grind (arith, nat_tests)

pub after_one : (r : Report) (p : World × List Report) → length (after (r ∷ []) p).1 ≡ suc (length p.1)
unfolding after
after_one r p = refl
