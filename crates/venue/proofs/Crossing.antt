-- Which orders meet, and that no two that stand do.
use Rattle.std.proofs.Common.{◌≡◌, ℕ, ◌<◌, ◌≤◌, true, false, List, [], ◌∷◌, ◌++◌, length, get_or, arith, rules}
use Rattle.std.specs.List.{AllByRecursion}
use Rattle.std.proofs.lemmas.Bool.Decides.{nat_tests}
use Rattle.std.proofs.ByRecursion.{All-push, All-weaker}
use Rattle.venue.proofs.Orders.{all_taken, all_without}
use Rattle.venue.specs.Invariant.{Calm, Uncrossed}
use Rattle.venue.specs.World.{Order, best, crosses, is_buy, less_left, meets, no_order, other_side, taken, without}

-- the order in the place that `best` names meets o
pub best_meets : (o : Order) (os : List Order) → best o os < length os → meets o (get_or os (best o os) no_order) ≡ true
unfolding best
best_meets o [] h = absurd (omega arith)
best_meets o (r ∷ rs) h = search (rules, best_meets o rs)

-- if it names none, no order meets o
pub best_none : (o : Order) (os : List Order) → length os ≤ best o os → AllByRecursion (λ (r : Order). meets o r ≡ false) os
unfolding best
best_none o [] h = tt
best_none o (r ∷ rs) h = search (rules, best_none o rs)

-- what it is for a buyer, and for a seller, to meet an order
pub meets_buy : (o r : Order) → is_buy o.side ≡ true → meets o r ≡ true →
    (r.item ≡ o.item) × (is_buy r.side ≡ false) × (r.price ≤ o.price)
unfolding meets other_side crosses
meets_buy o r s m = grind (arith, nat_tests)

pub meets_sell : (o r : Order) → is_buy o.side ≡ false → meets o r ≡ true →
    (r.item ≡ o.item) × (is_buy r.side ≡ true) × (o.price ≤ r.price)
unfolding meets other_side crosses
meets_sell o r s m = grind (arith, nat_tests)

-- and what it is not to meet one
unmet_buy : (o r : Order) → meets o r ≡ false → Uncrossed o r
unfolding meets other_side crosses is_buy
unmet_buy o r e b s q = search rules

unmet_sell : (o r : Order) → meets o r ≡ false → Uncrossed r o
unfolding meets other_side crosses is_buy
unmet_sell o r e b s q = search rules

self_uncrossed : (o : Order) → Uncrossed o o
self_uncrossed o b s q = absurd cc

pub calm_taken : (j x : ℕ) (os : List Order) → Calm os → Calm (taken j x os)
unfolding less_left
calm_taken j x os f = search (rules, all_taken, All-weaker)

pub calm_without : (j : ℕ) (os : List Order) → Calm os → Calm (without j os)
calm_without j os f = search (rules, all_without, All-weaker)

-- one more order, that meets none
pub calm_push : (o : Order) (os : List Order) → AllByRecursion (λ (r : Order). meets o r ≡ false) os → Calm os → Calm (os ++ o ∷ [])
calm_push o os f c =
    All-push (λ (b : Order). AllByRecursion (Uncrossed b) (os ++ o ∷ [])) os o (each os f c)
    (All-push (Uncrossed o) os o (All-weaker (λ (r : Order). meets o r ≡ false) (Uncrossed o) (unmet_buy o) os f) (self_uncrossed o))
  where
    each : (ps : List Order) → AllByRecursion (λ (r : Order). meets o r ≡ false) ps → AllByRecursion (λ (b : Order). AllByRecursion (Uncrossed b) os) ps →
        AllByRecursion (λ (b : Order). AllByRecursion (Uncrossed b) (os ++ o ∷ [])) ps
    each [] f g = tt
    each (p ∷ ps) f g = (All-push (Uncrossed p) os o g.0 (unmet_sell o p f.0), each ps f.1 g.1)
