-- Sums over orders of what goes by how much is left of each: a part that is carried out is so much less.
use Rattle.std.proofs.Common.{◌≡◌, ℕ, zero, suc, ◌+◌, ◌<◌, ◌≤◌, List, [], ◌∷◌, ◌++◌, length, get_or, sum_by, arith, rules}
use Rattle.std.proofs.lemmas.List.Sums.{sum_by-cons, sum_by_push}
use Rattle.venue.specs.World.{Order, less_left, no_order, taken, without}

-- x of order o
abbrev pub part : Order → ℕ → Order
part o x = record { number = o.number; account = o.account; item = o.item; side = o.side; price = o.price; left = x }

-- f of an order is f of its two parts
abbrev pub Splits : (Order → ℕ) → Type 0
Splits f = (o : Order) (x : ℕ) → x ≤ o.left → f o ≡ f (part o x) + f (less_left o x)

-- os is os' and u, in every such sum
abbrev pub Less : List Order → List Order → Order → Type 0
Less os os' u = (f : Order → ℕ) → Splits f → sum_by f os ≡ f u + sum_by f os'

pub weigh_without : (f : Order → ℕ) (j : ℕ) (os : List Order) → sum_by f (without j os) ≤ sum_by f os
unfolding without
weigh_without f (suc j) (o ∷ os) = omega (arith, sum_by-cons f o os, sum_by-cons f o (without j os), weigh_without f j os)
weigh_without f zero (o ∷ os) = omega (arith, sum_by-cons f o os)
weigh_without f j os = search rules

weigh_taken : (f : Order → ℕ) → Splits f → (j x : ℕ) (os : List Order) → j < length os → x ≤ (get_or os j no_order).left →
    sum_by f os ≡ f (part (get_or os j no_order) x) + sum_by f (taken j x os)
unfolding taken
weigh_taken f s j x [] h l = absurd (omega arith)
weigh_taken f s zero x (o ∷ os) h l = search (rules, sum_by-cons)
weigh_taken f s (suc j) x (o ∷ os) h l = omega (arith, sum_by-cons f o os, sum_by-cons f o (taken j x os), weigh_taken f s j x os (omega arith) l)

-- x of the last order is carried out
pub less_last : (os : List Order) (o : Order) (x : ℕ) → x ≤ o.left → Less (os ++ o ∷ []) (os ++ less_left o x ∷ []) (part o x)
less_last os o x h f s = omega (arith, sum_by_push f os o, sum_by_push f os (less_left o x), s o x h)

-- x of the order in place j is
pub less_taken : (j x : ℕ) (os : List Order) (o : Order) → j < length os → x ≤ (get_or os j no_order).left →
    Less (os ++ o ∷ []) (taken j x os ++ o ∷ []) (part (get_or os j no_order) x)
less_taken j x os o h l f s = omega (arith, sum_by_push f os o, sum_by_push f (taken j x os) o, weigh_taken f s j x os h l)
