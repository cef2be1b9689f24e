-- The test of a market passes exactly the markets that are as they should be.
use Rattle.std.proofs.Common.{◌≡◌, ℕ, ◌≤◌, true, false, List, [], length, pos, rules}
use Rattle.std.specs.List.{AllByRecursion}
use Rattle.venue.proofs.Messages.{leads_says}
use Rattle.venue.proofs.Runs.{inv_first}
use Rattle.venue.proofs.Tested.{of_cash, of_cleared, of_covered, of_debts, of_held, of_holds_each, of_in_place, of_items, of_not_crossed, of_rising}
use Rattle.venue.proofs.Tested.{of_some_left}
use Rattle.venue.proofs.TestedLimits.{of_holds, of_limits}
use Rattle.std.specs.Bool.{Decides}
use Rattle.std.proofs.lemmas.Bool.Decides.{Decides-and}
use Rattle.venue.proofs.Tests.{both_then, of_every}
use Rattle.venue.proofs.Totals.{cash_at}
use Rattle.venue.proofs.Turns.{turn_starts}
use Rattle.venue.specs.Invariant.{Calm, Cover, Inv, Left, NotBelow, Placed, Rising, Wide, Within}
use Rattle.venue.specs.Promise.{Safe, SoundItems, all_cash, all_held}
use Rattle.venue.specs.Sound.{Sound, in_place, some_left, sound_test}
use Rattle.venue.specs.Tearing.{Tearing}
use Rattle.venue.specs.Turn.{Turn, may_place}
use Rattle.venue.specs.World.{Item, Limits, Message, Side, World, counted, first, new_order, says}

-- the facts in the test's order
abbrev Parts : Limits → World → Type 0
Parts z w =
    (((((((((((AllByRecursion (Wide (length w.items)) w.accounts
    × AllByRecursion (Placed (length w.accounts) w.items) w.orders)
    × AllByRecursion Left w.orders)
    × Rising 1 w.orders w.next)
    × (all_cash w.accounts ≡ pos w.money))
    × ((k : ℕ) → all_held k w.accounts ≡ pos 0))
    × AllByRecursion NotBelow w.accounts)
    × (w.trading ≡ true → Cover w w.orders))
    × (w.trading ≡ false → w.orders ≡ []))
    × Calm w.orders)
    × SoundItems w.items)
    × Within z.holding w w.orders)
    × (((length w.orders ≤ z.orders) × (w.money ≤ z.money)) × (w.next ≤ 9223372036854775808))

of_parts : (z : Limits) (w : World) → Decides (sound_test z w) (Parts z w)
unfolding sound_test
of_parts z w =
    Decides-and _ _ (both_then _ _ (Decides-and _ _ (Decides-and _ _ (Decides-and _ _ (Decides-and _ _ (Decides-and _ _ (both_then _ _ (Decides-and _ _ (Decides-and _ _ (Decides-and _ _ (Decides-and _ _ (of_holds_each w)
    (of_every (in_place w) (Placed (length w.accounts) w.items) (of_in_place w) w.orders))
    (of_every some_left Left of_some_left w.orders))
    (of_rising 1 w.orders w.next))
    (of_cash w))
    (λ p. of_held w p.0.0.0.0))
    (of_debts w))
    (of_covered w))
    (of_cleared w))
    (of_not_crossed w))
    (of_items w.items))
    (λ p. let q = p.0.0.0.0.0.0.0.0.0 in of_holds z w q.0 q.1))
    (of_limits z w)

pub sound_inv : (z : Limits) (w : World) → Sound z w → Inv z w
sound_inv z w s = search (rules, of_parts)

pub inv_sound : (z : Limits) (w : World) → Inv z w → Sound z w
inv_sound z w i = search (rules, of_parts)

pub sound_first : (z : Limits) (is : List Item) (n : ℕ) → SoundItems is → Sound z (first is n)
sound_first z is n s = inv_sound z (first is n) (inv_first z is n s)

pub sound_says : (z : Limits) (w : World) (m : Message) → Sound z w → Sound z (says z w m).0
sound_says z w m s = inv_sound z (says z w m).0 (leads_says z w m (sound_inv z w s)).inv

pub sound_safe : (z : Limits) (w : World) → Sound z w → Safe w
unfolding Safe
sound_safe z w s = let i = sound_inv z w s in (λ a h. (cash_at w a h i.rich, λ t. i.cover t a h), i.cash, i.held)

-- an order that may be placed begins its turns
pub turn_begins : (z : Limits) (w : World) (a k : ℕ) (s : Side) (p q : ℕ) → Sound z w → may_place z w a k s p q ≡ true →
    Turn z (counted w) (new_order w a k s p q)
turn_begins z w a k s p q e h = turn_starts z w a k s p q (sound_inv z w e) h

-- and a market without trading may be torn up
pub tearing_begins : (z : Limits) (w : World) → Sound z w → w.trading ≡ false → Tearing z w
tearing_begins z w s e = record { inv = sound_inv z w s; still = e }
