-- The day's end: gains and losses cancel out, holdings stay, and the new items are as they should be.
use Rattle.std.proofs.Common.{◌≡◌, ℕ, suc, ◌<◌, true, List, [], ◌∷◌, length, get_or, ℤ, pos, ◌+ℤ◌, ◌-ℤ◌, ◌*ℤ◌, refl, ap, arith, rules}
use Rattle.std.specs.List.{AllByRecursion}
use Rattle.std.proofs.lemmas.Int.{ints}
use Rattle.venue.proofs.Ints.{dist_r}
use Rattle.venue.specs.Invariant.{Wide}
use Rattle.venue.specs.Promise.{SoundItems, all_cash, all_held}
use Rattle.venue.specs.World.{Account, Item, gain, held, new_items, nobody, paid, prices_fit}

-- the gains of all accounts together, by items
all_gain : ℕ → List Item → List ℕ → List Account → ℤ
all_gain k [] ps xs = pos 0
all_gain k (i ∷ is) [] xs = pos 0
all_gain k (i ∷ is) (p ∷ ps) xs = (all_held k xs *ℤ (pos p -ℤ pos i.price)) +ℤ all_gain (suc k) is ps xs

gain_none : (k : ℕ) (is : List Item) (ps : List ℕ) → all_gain k is ps [] ≡ pos 0
unfolding all_gain all_held
gain_none k (i ∷ is) (p ∷ ps) = search (rules, gain_none (suc k) is ps)
gain_none k is ps = search rules

gain_more : (k : ℕ) (is : List Item) (ps : List ℕ) (x : Account) (xs : List Account) →
    all_gain k is ps (x ∷ xs) ≡ gain k is ps x +ℤ all_gain k is ps xs
unfolding all_gain gain all_held
gain_more k (i ∷ is) (p ∷ ps) x xs = omega (arith, ints, gain_more (suc k) is ps x xs, dist_r (held x k) (all_held k xs) (pos p -ℤ pos i.price))
gain_more k is ps x xs = search rules

cash_gained : (is : List Item) (ps : List ℕ) (xs : List Account) → all_cash (paid is ps xs) ≡ all_cash xs +ℤ all_gain 0 is ps xs
unfolding paid all_cash
cash_gained is ps [] = rw gain_none
cash_gained is ps (x ∷ xs) = let e = cash_gained is ps xs in rw gain_more (omega (arith, ints))

gain_even : (k : ℕ) (is : List Item) (ps : List ℕ) (xs : List Account) → ((j : ℕ) → all_held j xs ≡ pos 0) → all_gain k is ps xs ≡ pos 0
unfolding all_gain
gain_even k (i ∷ is) (p ∷ ps) xs h = search (rules, gain_even (suc k) is ps xs h)
gain_even k is ps xs e = search rules

-- of each item as much is owed as owned, so all gains together are 0
pub cash_paid : (is : List Item) (ps : List ℕ) (xs : List Account) → ((j : ℕ) → all_held j xs ≡ pos 0) → all_cash (paid is ps xs) ≡ all_cash xs
cash_paid is ps xs h = omega (arith, ints, cash_gained is ps xs, gain_even 0 is ps xs h)

pub held_paid : (k : ℕ) (is : List Item) (ps : List ℕ) (xs : List Account) → all_held k (paid is ps xs) ≡ all_held k xs
unfolding paid all_held held
held_paid k is ps [] = refl
held_paid k is ps (x ∷ xs) = ap (λ (z : ℤ). held x k +ℤ z) (held_paid k is ps xs)

pub many_paid : (is : List Item) (ps : List ℕ) (xs : List Account) → length (paid is ps xs) ≡ length xs
unfolding paid
many_paid is ps [] = refl
many_paid is ps (x ∷ xs) = ap suc (many_paid is ps xs)

pub wide_paid : (n : ℕ) (is : List Item) (ps : List ℕ) (xs : List Account) → AllByRecursion (Wide n) xs → AllByRecursion (Wide n) (paid is ps xs)
unfolding paid
wide_paid n is ps [] f = tt
wide_paid n is ps (x ∷ xs) f = (f.0, wide_paid n is ps xs f.1)

pub holds_paid : (is : List Item) (ps : List ℕ) (xs : List Account) (a : ℕ) → (get_or (paid is ps xs) a nobody).holds ≡ (get_or xs a nobody).holds
unfolding paid
holds_paid is ps (x ∷ xs) (suc a) = holds_paid is ps xs a
holds_paid is ps xs a = search rules

pub cash_of_paid : (is : List Item) (ps : List ℕ) (xs : List Account) (a : ℕ) → a < length xs →
    (get_or (paid is ps xs) a nobody).cash ≡ (get_or xs a nobody).cash +ℤ gain 0 is ps (get_or xs a nobody)
unfolding paid
cash_of_paid is ps (x ∷ xs) (suc a) h = cash_of_paid is ps xs a (omega arith)
cash_of_paid is ps xs a h = search rules

pub new_many : (is : List Item) (ps bs : List ℕ) → prices_fit is ps bs ≡ true → length (new_items ps bs) ≡ length is
unfolding prices_fit new_items
new_many (i ∷ is) (p ∷ ps) (b ∷ bs) e = search (rules, new_many is ps bs)
new_many is ps bs e = search rules

pub new_sound : (is : List Item) (ps bs : List ℕ) → prices_fit is ps bs ≡ true → SoundItems (new_items ps bs)
unfolding prices_fit new_items SoundItems
new_sound (i ∷ is) (p ∷ ps) (b ∷ bs) e (suc k) h = search (rules, new_sound is ps bs)
new_sound is ps bs e k h = search rules
