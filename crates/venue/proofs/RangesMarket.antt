-- The ranges of a market's numbers: of one between two messages, at a turn of an order, and while holdings are torn up.
use Rattle.std.proofs.Common.{◌≡◌, ℕ, ◌<◌, ◌≤◌, List, [], ◌∷◌, ◌++◌, length, get_or, pos, ◌≤ℤ◌, arith, rules}
use Rattle.std.specs.List.{AllByRecursion}
use Rattle.std.proofs.lemmas.Int.{ints}
use Rattle.std.proofs.ByRecursion.{All-get_or, All-from_get_or}
use Rattle.venue.proofs.Margins.{rich_from}
use Rattle.venue.proofs.Matching.{Leads}
use Rattle.venue.proofs.Messages.{leads_says}
use Rattle.venue.proofs.Numbers.{numbers_below}
use Rattle.venue.proofs.Sounds.{sound_inv}
use Rattle.venue.proofs.Totals.{cash_at, cash_within}
use Rattle.venue.specs.Invariant.{Inv, Left, NotBelow, Placed, Rising}
use Rattle.venue.specs.Promise.{SoundItems, all_cash}
use Rattle.venue.specs.Ranges.{ItemRange, OrderRange, Ranged}
use Rattle.venue.specs.Sizes.{Sized, Small}
use Rattle.venue.specs.Sound.{Sound}
use Rattle.venue.specs.Tearing.{Tearing}
use Rattle.venue.specs.Turn.{Turn}
use Rattle.venue.specs.World.{Item, Limits, Message, Order, World, account, no_item, no_order, says}

items_range : (is : List Item) → SoundItems is → AllByRecursion ItemRange is
unfolding SoundItems
items_range is s =
    All-from_get_or ItemRange is no_item (λ k h. let q = s k h in record { band_low = q.0; band_high = q.1; price = q.2 })

order_range : (n : ℕ) (is : List Item) (o : Order) → SoundItems is → Placed n is o → o.left ≤ 1000000 → o.number < 9223372036854775808 →
    OrderRange n (length is) o
unfolding SoundItems
order_range n is o s p l m = search rules

orders_range : (n : ℕ) (is : List Item) (os : List Order) (t : ℕ) → t ≤ 9223372036854775808 → SoundItems is → AllByRecursion (Placed n is) os → AllByRecursion Left os →
    Rising 1 os t → AllByRecursion (OrderRange n (length is)) os
orders_range n is os t h s p l r =
    All-from_get_or (OrderRange n (length is)) os no_order
    (λ k g. order_range n is (get_or os k no_order) s (All-get_or (Placed n is) os k no_order g p) (All-get_or Left os k no_order g l).1
    (let m = All-get_or (λ (o : Order). o.number < t) os k no_order g (numbers_below 1 os t r) in omega arith))

cash_in : (w : World) (m a : ℕ) → a < length w.accounts → AllByRecursion NotBelow w.accounts → all_cash w.accounts ≡ pos w.money → w.money ≤ m →
    (pos 0 ≤ℤ (account w a).cash) × ((account w a).cash ≤ℤ pos m)
cash_in w m a h r c l = (cash_at w a h r, omega (arith, ints, cash_within w a h r))

pub inv_range : (z : Limits) (w : World) → Small z → Inv z w → Ranged w
inv_range z w s i =
    let c = λ (a : ℕ) (h : a < length w.accounts). cash_in w 1125899906842624 a h i.rich i.cash (omega (arith, i.money, s.money)) in
    search (rules, c, items_range, orders_range)

-- at every turn, and of the order being placed too
pub turn_range : (z : Limits) (w : World) (o : Order) → Small z → Turn z w o →
    Ranged w × OrderRange (length w.accounts) (length w.items) o
turn_range z w o s t =
    let n : o.number < 9223372036854775808 = omega (arith, t.number, t.next) in (
      record {
        items = items_range w.items t.items;
        orders = orders_range (length w.accounts) w.items w.orders o.number (omega arith) t.items t.placed t.left t.numbers;
        cash = λ a h. cash_in w 1125899906842624 a h (rich_from w (w.orders ++ o ∷ []) t.cover) t.cash (omega (arith, t.money, s.money));
        held = λ a k h. omega (arith, t.holds a k h, s.holding);
        money = omega (arith, t.money, s.money);
        next = t.next;
      },
      order_range (length w.accounts) w.items o t.items t.order t.most n,
    )

pub tearing_range : (z : Limits) (w : World) → Small z → Tearing z w → Ranged w
tearing_range z w s t = inv_range z w s t.inv

-- the sizes stay
pub sized_small : (z : Limits) (w : World) → Sized z w → Small z
sized_small z w s = record { orders = s.few_orders; money = s.money; holding = s.holding }

sized_leads : (z : Limits) (w v : World) → Leads z w v → Sized z w → Sized z v
sized_leads z w v l s = search rules

pub sized_says : (z : Limits) (w : World) (m : Message) → Sound z w → Sized z w → Sized z (says z w m).0
sized_says z w m e s = sized_leads z w (says z w m).0 (leads_says z w m (sound_inv z w e)) s

pub sound_range : (z : Limits) (w : World) → Sound z w → Sized z w → Ranged w
sound_range z w e s = inv_range z w (sized_small z w s) (sound_inv z w e)

pub cash_range : (z : Limits) (w : World) (a : ℕ) → Sound z w → Sized z w → a < length w.accounts →
    (pos 0 ≤ℤ (account w a).cash) × ((account w a).cash ≤ℤ pos 1125899906842624)
cash_range z w a e s h = (sound_range z w e s).cash a h
