-- Each rule of the test of a market, and the fact that it decides.
use Rattle.std.proofs.Common.{◌≡◌, ℕ, suc, ◌<◌, ◌≤◌, true, false, not, ◌&&◌, ◌||◌, eqb, ltb, List, [], ◌∷◌, length, pos, ◌≤ℤ◌, refl, arith, rules}
use Rattle.std.proofs.lemmas.Int.{ints}
use lib.Signed.{le_z}
use Rattle.std.specs.List.{AllByRecursion}
use Rattle.std.proofs.ByRecursion.{All-get_or, All-from_get_or}
use Rattle.std.proofs.lemmas.Bool.{cases_lt}
use Rattle.std.proofs.lemmas.List.{get_or_past, nil_from_length}
use Rattle.std.specs.Bool.{Decides}
use Rattle.std.proofs.lemmas.Bool.Decides.{Decides-like}
use Rattle.venue.proofs.Tests.{of_below, of_every, of_if, of_same}
use Rattle.venue.specs.Invariant.{Calm, Cover, Left, NotBelow, Placed, Rising, Uncrossed, Wide}
use Rattle.venue.specs.Promise.{SoundItems, all_cash, all_held}
use Rattle.venue.specs.Sound.{all_covered, apart, cash_adds_up, cleared, every, holds_cancel, holds_each, in_place, item_fits, no_debts, not_crossed}
use Rattle.venue.specs.Sound.{rising, same, some_left}
use Rattle.venue.specs.World.{Account, Item, Order, Side, World, account, buy, covered, held, is_buy, item, need, no_item, sell}

pub of_holds_each : (w : World) → Decides (holds_each w) (AllByRecursion (Wide (length w.items)) w.accounts)
unfolding holds_each
of_holds_each w = search (rules, of_every)

pub of_in_place : (w : World) (o : Order) → Decides (in_place w o) (Placed (length w.accounts) w.items o)
unfolding in_place item
of_in_place w o = search rules

pub of_some_left : (o : Order) → Decides (some_left o) (Left o)
unfolding some_left
of_some_left o = search rules

pub of_rising : (t : ℕ) (os : List Order) (n : ℕ) → Decides (rising t os n) (Rising t os n)
unfolding rising
of_rising t [] n = search rules
of_rising t (o ∷ os) n = search (rules, of_rising (suc o.number) os n)

pub of_cash : (w : World) → Decides (cash_adds_up w) (all_cash w.accounts ≡ pos w.money)
unfolding cash_adds_up
of_cash w = of_same (all_cash w.accounts) (pos w.money)

-- past the items nobody holds anything
held_past : (n k : ℕ) (xs : List Account) → AllByRecursion (Wide n) xs → n ≤ k → all_held k xs ≡ pos 0
unfolding all_held held
held_past n k [] a h = refl
held_past n k (x ∷ xs) a h = search (rules, get_or_past, held_past n k xs a.1 h)

pub of_held : (w : World) → AllByRecursion (Wide (length w.items)) w.accounts → Decides (holds_cancel w) ((k : ℕ) → all_held k w.accounts ≡ pos 0)
unfolding holds_cancel
of_held w f =
    let b = of_below (λ (k : ℕ). same (all_held k w.accounts) (pos 0)) (λ (k : ℕ). all_held k w.accounts ≡ pos 0) (λ k. search rules) (length w.items) in
    search (rules, b, held_past, cases_lt)

pub of_debts : (w : World) → Decides (no_debts w) (AllByRecursion NotBelow w.accounts)
unfolding no_debts
of_debts w = of_every (λ (x : Account). le_z (pos 0) x.cash) NotBelow (λ x. search rules) w.accounts

pub of_covered : (w : World) → Decides (all_covered w) (w.trading ≡ true → Cover w w.orders)
unfolding all_covered covered
of_covered w = of_if w.trading _ (of_below (λ (a : ℕ). covered w a w.orders) (λ (a : ℕ). need w a w.orders ≤ℤ (account w a).cash) (λ a. search rules) (length w.accounts))

pub of_cleared : (w : World) → Decides (cleared w) (w.trading ≡ false → w.orders ≡ [])
unfolding cleared
of_cleared w = search (rules, nil_from_length)

of_sides : (b s : Side) (i j p q : ℕ) → Decides (not (is_buy b && (not (is_buy s) && eqb i j)) || ltb p q) (b ≡ buy → s ≡ sell → i ≡ j → p < q)
unfolding is_buy
of_sides b s i j p q = grind (arith, ints)

of_apart : (b s : Order) → Decides (apart b s) (Uncrossed b s)
unfolding apart
of_apart b s = of_sides b.side s.side b.item s.item b.price s.price

pub of_not_crossed : (w : World) → Decides (not_crossed w) (Calm w.orders)
unfolding not_crossed
of_not_crossed w = search (rules, of_every, of_apart)

of_item : (i : Item) → Decides (item_fits i) ((1 ≤ i.band) × (i.band ≤ i.price) × (i.price ≤ 1000000))
unfolding item_fits
of_item i = search rules

pub of_items : (is : List Item) → Decides (every item_fits is) (SoundItems is)
unfolding SoundItems
of_items is =
    Decides-like _ (λ a k h. All-get_or (λ (i : Item). (1 ≤ i.band) × (i.band ≤ i.price) × (i.price ≤ 1000000)) is k no_item h a)
    (λ f. All-from_get_or (λ (i : Item). (1 ≤ i.band) × (i.band ≤ i.price) × (i.price ≤ 1000000)) is no_item f)
    (of_every item_fits (λ (i : Item). (1 ≤ i.band) × (i.band ≤ i.price) × (i.price ≤ 1000000)) of_item is)
