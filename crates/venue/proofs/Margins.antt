-- What an account needs, item by item: never below 0, and how it changes with orders and holdings.
use Rattle.std.proofs.Common.{◌≡◌, ℕ, zero, suc, ◌+◌, ◌<◌, ◌≤◌, ◌≢◌, List, [], ◌∷◌, ◌++◌, length, get_or, ℤ, pos, ◌-ℤ◌, ◌≤ℤ◌, arith, rules}
use Rattle.std.specs.List.{AllByRecursion}
use Rattle.std.proofs.lemmas.Int.{ints}
use Rattle.std.proofs.ByRecursion.{All-from_get_or}
use Rattle.venue.proofs.Released.{buys_less, buys_push, sells_less, sells_push}
use Rattle.venue.proofs.Weights.{Less}
use Rattle.venue.specs.Invariant.{Cover, NotBelow}
use Rattle.venue.specs.World.{Account, Item, Order, World, account, buys, held, larger, need, need_from, need_in, no_item, nobody, sells}

need_in_0 : (a k : ℕ) (i : Item) (h : ℤ) (os : List Order) → pos 0 ≤ℤ need_in a k i h os
unfolding need_in larger
need_in_0 a k i h os = grind (arith, ints)

need_from_0 : (a k : ℕ) (is : List Item) (x : Account) (os : List Order) → pos 0 ≤ℤ need_from a k is x os
unfolding need_from
need_from_0 a k [] x os = omega (arith, ints)
need_from_0 a k (i ∷ is) x os = omega (arith, ints, need_in_0 a k i (held x k) os, need_from_0 a (suc k) is x os)

pub need_0 : (w : World) (a : ℕ) (os : List Order) → pos 0 ≤ℤ need w a os
unfolding need
need_0 w a os = need_from_0 a 0 w.items (account w a) os

-- who can lose all that can be lost has no less than nothing
pub rich_from : (w : World) (os : List Order) → Cover w os → AllByRecursion NotBelow w.accounts
unfolding account
rich_from w os v = All-from_get_or NotBelow w.accounts nobody (λ c l. omega (arith, ints, v c l, need_0 w c os))

-- no more in any item, no more in all
pub need_mono : (c k : ℕ) (is : List Item) (x x' : Account) (os os' : List Order) →
    ((j : ℕ) (i : Item) → k ≤ j → need_in c j i (held x' j) os' ≤ℤ need_in c j i (held x j) os) →
    need_from c k is x' os' ≤ℤ need_from c k is x os
unfolding need_from
need_mono c k [] x x' os os' f = omega (arith, ints)
need_mono c k (i ∷ is) x x' os os' f = search (rules, need_mono c (suc k) is x x' os os' (λ j i h. f j i (omega arith)))

-- less by D in item m, which is d places on, and no more in any other
pub need_step : (c k d m : ℕ) (is : List Item) (x x' : Account) (os os' : List Order) (D : ℤ) → d < length is → m ≡ k + d →
    ((j : ℕ) (i : Item) → j ≢ m → need_in c j i (held x' j) os' ≤ℤ need_in c j i (held x j) os) →
    ((j : ℕ) → j ≡ m → need_in c j (get_or is d no_item) (held x' j) os' ≤ℤ (need_in c j (get_or is d no_item) (held x j) os -ℤ D)) →
    need_from c k is x' os' ≤ℤ (need_from c k is x os -ℤ D)
unfolding need_from
need_step c k d m [] x x' os os' D h e f g = absurd (omega arith)
need_step c k zero m (i ∷ is) x x' os os' D h e f g =
    omega (arith, ints, g k (omega arith), need_mono c (suc k) is x x' os os' (λ j i l. f j i (omega arith)))
need_step c k (suc d) m (i ∷ is) x x' os os' D h e f g = search (rules, need_step c (suc k) d m is x x' os os' D (omega arith) (omega arith) f g)

-- fewer orders, less need
pub need_in_less : (c k : ℕ) (i : Item) (h : ℤ) (os os' : List Order) → buys c k i os' ≤ buys c k i os → sells c k i os' ≤ sells c k i os →
    need_in c k i h os' ≤ℤ need_in c k i h os
unfolding need_in larger
need_in_less c k i h os os' e f = grind (arith, ints)

-- the same account with no more orders
pub need_less : (w : World) (c : ℕ) (os os' : List Order) →
    ((k : ℕ) (i : Item) → (buys c k i os' ≤ buys c k i os) × (sells c k i os' ≤ sells c k i os)) → need w c os' ≤ℤ need w c os
unfolding need
need_less w c os os' f = search (rules, need_mono, need_in_less)

pub need_released : (os os' : List Order) (u : Order) → Less os os' u → (c k : ℕ) (i : Item) (h : ℤ) → need_in c k i h os' ≤ℤ need_in c k i h os
need_released os os' u f c k i h =
    need_in_less c k i h os os' (omega (arith, buys_less os os' u f c k i)) (omega (arith, sells_less os os' u f c k i))

-- an order of another account needs nothing
pub other_need : (w : World) (c : ℕ) (os : List Order) (o : Order) → c ≢ o.account → need w c (os ++ o ∷ []) ≤ℤ need w c os
other_need w c os o e = search (rules, need_less, buys_push, sells_push)
