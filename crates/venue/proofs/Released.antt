-- What an order adds to `buys`, `sells` and `standing`, and so what its part that is carried out takes off them.
use Rattle.std.proofs.Common.{◌≡◌, ℕ, ◌+◌, ◌-◌, ◌*◌, ◌≤◌, Bool, not, ◌&&◌, eqb, List, [], ◌∷◌, ◌++◌, refl, sum_by, arith, rules}
use Rattle.std.proofs.lemmas.Int.{ints}
use Rattle.std.proofs.lemmas.List.Recursion.{is_sum_by}
use Rattle.std.proofs.lemmas.List.Sums.{sum_by_push}
use Rattle.venue.proofs.Weights.{Less, weigh_without}
use Rattle.venue.specs.World.{Item, Order, buys, is_buy, less_left, pick, sells, standing, without}

-- by an order of account a in item k
abbrev pub bw : ℕ → ℕ → Item → Order → ℕ
bw a k i o = pick (eqb o.account a && (eqb o.item k && is_buy o.side)) (o.left * ((o.price + i.band) - i.price)) 0

abbrev pub sw : ℕ → ℕ → Item → Order → ℕ
sw a k i o = pick (eqb o.account a && (eqb o.item k && not (is_buy o.side))) (o.left * ((i.price + i.band) - o.price)) 0

abbrev pub stw : ℕ → ℕ → Order → ℕ
stw a k o = pick (eqb o.account a && eqb o.item k) o.left 0

-- they are sums
buys_is : (a k : ℕ) (i : Item) (os : List Order) → buys a k i os ≡ sum_by (bw a k i) os
unfolding buys
buys_is a k i = is_sum_by (buys a k i) (bw a k i) refl (λ _ _. refl)

sells_is : (a k : ℕ) (i : Item) (os : List Order) → sells a k i os ≡ sum_by (sw a k i) os
unfolding sells
sells_is a k i = is_sum_by (sells a k i) (sw a k i) refl (λ _ _. refl)

standing_is : (a k : ℕ) (os : List Order) → standing a k os ≡ sum_by (stw a k) os
unfolding standing
standing_is a k = is_sum_by (standing a k) (stw a k) refl (λ _ _. refl)

-- with one order more
pub buys_push : (a k : ℕ) (i : Item) (os : List Order) (o : Order) → buys a k i (os ++ o ∷ []) ≡ bw a k i o + buys a k i os
buys_push a k i os o = omega (arith, buys_is a k i (os ++ o ∷ []), buys_is a k i os, sum_by_push (bw a k i) os o)

pub sells_push : (a k : ℕ) (i : Item) (os : List Order) (o : Order) → sells a k i (os ++ o ∷ []) ≡ sw a k i o + sells a k i os
sells_push a k i os o = omega (arith, sells_is a k i (os ++ o ∷ []), sells_is a k i os, sum_by_push (sw a k i) os o)

pub standing_push : (a k : ℕ) (os : List Order) (o : Order) → standing a k (os ++ o ∷ []) ≡ stw a k o + standing a k os
standing_push a k os o = omega (arith, standing_is a k (os ++ o ∷ []), standing_is a k os, sum_by_push (stw a k) os o)

-- with one less
pub buys_without : (a k : ℕ) (i : Item) (j : ℕ) (os : List Order) → buys a k i (without j os) ≤ buys a k i os
buys_without a k i j os = omega (arith, buys_is a k i (without j os), buys_is a k i os, weigh_without (bw a k i) j os)

pub sells_without : (a k : ℕ) (i : Item) (j : ℕ) (os : List Order) → sells a k i (without j os) ≤ sells a k i os
sells_without a k i j os = omega (arith, sells_is a k i (without j os), sells_is a k i os, weigh_without (sw a k i) j os)

pub standing_without : (a k j : ℕ) (os : List Order) → standing a k (without j os) ≤ standing a k os
standing_without a k j os = omega (arith, standing_is a k (without j os), standing_is a k os, weigh_without (stw a k) j os)

-- with a part of one less
splits : (b : Bool) (l x c : ℕ) → x ≤ l → pick b (l * c) 0 ≡ pick b (x * c) 0 + pick b ((l - x) * c) 0
splits b l x c e = grind (arith, ints)

pub buys_less : (os os' : List Order) (u : Order) → Less os os' u → (a k : ℕ) (i : Item) → buys a k i os ≡ bw a k i u + buys a k i os'
unfolding less_left
buys_less os os' u f a k i = search (rules, buys_is, splits)

pub sells_less : (os os' : List Order) (u : Order) → Less os os' u → (a k : ℕ) (i : Item) → sells a k i os ≡ sw a k i u + sells a k i os'
unfolding less_left
sells_less os os' u f a k i = search (rules, sells_is, splits)

pub standing_less : (os os' : List Order) (u : Order) → Less os os' u → (a k : ℕ) → standing a k os ≡ stw a k u + standing a k os'
unfolding less_left
standing_less os os' u f a k = search (rules, standing_is)
