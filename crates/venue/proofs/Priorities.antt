-- `best` keeps price and time priority.
use Rattle.std.proofs.Common.{◌≡◌, ℕ, suc, ◌<◌, ◌≤◌, Bool, true, false, ◌&&◌, ltb, List, [], ◌∷◌, length, get_or, refl, arith, rules}
use Rattle.std.proofs.lemmas.Int.{ints}
use Rattle.std.proofs.lemmas.Bool.Decides.{nat_tests}
use Rattle.std.proofs.lemmas.Bool.{both_ways, ltb-true, ltb-false}
use Rattle.std.proofs.ByRecursion.{All-get_or}
use Rattle.venue.proofs.Crossing.{best_meets, best_none, meets_buy, meets_sell}
use Rattle.venue.proofs.Sounds.{sound_inv}
use Rattle.venue.specs.Invariant.{Rising}
use Rattle.venue.specs.Priority.{AsGood, BestIsFirst, BestIsOldest, CanTrade, MeetsCanTrade}
use Rattle.venue.specs.World.{Order, Side, best, better, buy, crosses, is_buy, meets, no_order, other_side}

side_buy : (s : Side) → is_buy s ≡ true → s ≡ buy
unfolding is_buy
side_buy s e = grind (arith, ints)

meets_can : (o r : Order) (s : Side) → o.side ≡ s → meets o r ≡ true → CanTrade o r
unfolding is_buy
meets_can o r s e f = grind (arith, ints, meets_buy, meets_sell, side_buy)

can_meets : (o r : Order) → CanTrade o r → meets o r ≡ true
unfolding meets other_side crosses is_buy
can_meets o r e = grind (arith, ints)

pub is_can : MeetsCanTrade
unfolding MeetsCanTrade
is_can o r = (meets_can o r o.side refl, can_meets o r)

-- a price that is no better than p is one that p is as good as
as_good : (o : Order) (s : Side) (p q : ℕ) → o.side ≡ s → better o q p ≡ false → AsGood s p q
unfolding better is_buy
as_good o s p q e f = grind (arith, ints)

strictly : (o : Order) (s : Side) (p q : ℕ) → o.side ≡ s → better o p q ≡ true → AsGood s p q × (q ≡ p → ⊥)
unfolding better is_buy
strictly o s p q e f = grind (arith, ints)

pub good_same : (s : Side) (p : ℕ) → AsGood s p p
good_same s p = grind (arith, ints)

good_more : (s : Side) (p q r : ℕ) → AsGood s p q → AsGood s q r → AsGood s p r
good_more s p q r e f = grind (arith, ints)

-- price and time, at place b
abbrev Ahead : Order → List Order → ℕ → Type 0
Ahead o os b =
    (j : ℕ) → j < length os → meets o (get_or os j no_order) ≡ true →
    AsGood o.side (get_or os b no_order).price (get_or os j no_order).price
    × ((get_or os j no_order).price ≡ (get_or os b no_order).price → b ≤ j)

-- with r before them: r is no worse than those behind it, or b is the better one among them
ahead_here : (o r : Order) (rs : List Order) → ((j : ℕ) → j < length rs → meets o (get_or rs j no_order) ≡ true →
    AsGood o.side r.price (get_or rs j no_order).price) → Ahead o (r ∷ rs) 0
ahead_here o r rs e = search rules

ahead_behind : (o r : Order) (rs : List Order) (b : ℕ) → Ahead o rs b →
    (meets o r ≡ true → AsGood o.side (get_or rs b no_order).price r.price × (r.price ≡ (get_or rs b no_order).price → ⊥)) →
    Ahead o (r ∷ rs) (suc b)
ahead_behind o r rs b e f = grind (arith, ints)

-- if the best of rs is no better than r, none of them is
no_better : (o r : Order) (rs : List Order) (b : Bool) → ltb (best o rs) (length rs) ≡ b → (best o rs < length rs → Ahead o rs (best o rs)) →
    (ltb (best o rs) (length rs) && better o (get_or rs (best o rs) no_order).price r.price) ≡ false →
    (j : ℕ) → j < length rs → meets o (get_or rs j no_order) ≡ true → AsGood o.side r.price (get_or rs j no_order).price
no_better o r rs true e f t j k m =
    let q : better o (get_or rs (best o rs) no_order).price r.price ≡ false = grind arith in
    let i = ltb-true (best o rs) (length rs) e in
    good_more o.side _ _ _ (as_good o o.side r.price (get_or rs (best o rs) no_order).price refl q) (f i j k m).0
no_better o r rs false e f t j k m =
    let i = ltb-false (best o rs) (length rs) e in
    absurd (both_ways _ (All-get_or (λ (r : Order). meets o r ≡ false) rs j no_order k (best_none o rs i)) m)

ahead : (o : Order) (os : List Order) → best o os < length os → Ahead o os (best o os)
unfolding best
ahead o [] h = absurd (omega arith)
ahead o (r ∷ rs) h = search (rules, ahead o rs, ahead_behind, strictly, ahead_here, no_better)

pub is_first_for : BestIsFirst
unfolding BestIsFirst MeetsCanTrade
is_first_for o os = (
  λ h. record {
    there = h;
    can = (is_can o _).0 (best_meets o os h);
    price = λ j l m. (ahead o os h j l ((is_can o _).1 m)).0;
    time = λ j l m. (ahead o os h j l ((is_can o _).1 m)).1;
  },
  (
    λ h j l m. both_ways _ (All-get_or (λ (r : Order). meets o r ≡ false) os j no_order l (best_none o os h)) ((is_can o _).1 m),
    λ f. by_test f (ltb (best o os) (length os)) refl,
  ),
)
  where
    by_test : ((j : ℕ) → j < length os → CanTrade o (get_or os j no_order) → ⊥) → (b : Bool) → ltb (best o os) (length os) ≡ b → length os ≤ best o os
    by_test f true e = let i : best o os < length os = grind (arith, nat_tests) in absurd (f (best o os) i (meets_can o _ o.side refl (best_meets o os i)))
    by_test f false e = grind (arith, nat_tests)

-- numbers rise with places
number_low : (t : ℕ) (os : List Order) (n j : ℕ) → Rising t os n → j < length os → t ≤ (get_or os j no_order).number
number_low t (o ∷ os) n (suc j) r h = search (rules, number_low (suc o.number) os n j)
number_low t os n j r h = search rules

pub numbers_rise : (t : ℕ) (os : List Order) (n i j : ℕ) → Rising t os n → i ≤ j → j < length os →
    (get_or os i no_order).number ≤ (get_or os j no_order).number
numbers_rise t (o ∷ os) n (suc i) (suc j) r h l = search (rules, numbers_rise (suc o.number) os n i j)
numbers_rise t os n i j r h l = search (rules, number_low)

pub is_oldest : BestIsOldest
unfolding BestIsOldest
is_oldest z w o j s h l m e =
    numbers_rise 1 w.orders w.next (best o w.orders) j (sound_inv z w s).numbers
    ((ahead o w.orders h j l (can_meets o _ m)).1 e) l
