-- When an order can be taken back, and that just this one is gone then.
use Rattle.std.proofs.Common.{◌≡◌, ℕ, suc, ◌<◌, List, [], ◌∷◌, ◌++◌, length, take, drop, arith, rules}
use Rattle.std.proofs.lemmas.Bool.{lt-ltb}
use Rattle.venue.proofs.Paying.{done_if}
use Rattle.venue.specs.Cancelling.{CancelRemoves, CancelTaken, StandsAt}
use Rattle.venue.specs.World.{Order, kind, number_at, says, says_it, with_orders, without}

-- the place that `number_at` names
found : (a n : ℕ) (os : List Order) → number_at a n os < length os → StandsAt os a n (number_at a n os)
unfolding number_at
found a n [] h = absurd (omega arith)
found a n (o ∷ os) h = search (rules, found a n os)

-- it names one if there is one
finds : (a n : ℕ) (os : List Order) (j : ℕ) → StandsAt os a n j → number_at a n os < length os
unfolding number_at
finds a n (o ∷ os) (suc j) s = search (rules, finds a n os j (record { there = omega (arith, s.there); number = s.number; account = s.account }))
finds a n os j e = search rules

without_is : (j : ℕ) (os : List Order) → without j os ≡ take j os ++ drop (suc j) os
unfolding without
without_is (suc j) (o ∷ os) = search (rules, without_is j os)
without_is j os = search rules

pub is_cancel_taken : CancelTaken
unfolding CancelTaken says says_it kind
is_cancel_taken z w a n b = search (rules, done_if, found, lt-ltb, finds)

pub is_removed : CancelRemoves
unfolding CancelRemoves says says_it kind with_orders
is_removed z w a n = search (rules, found, without_is)
