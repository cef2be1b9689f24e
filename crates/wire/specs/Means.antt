-- What the code's values say: each as one of the plain market's own. Assumes nothing: these are definitions.
use Rattle.std.specs.Prelude.{ℕ, zero, suc, ◌+◌, ◌-◌, ◌*◌, ◌^◌, ◌<◌, Bool, false, ◌&&◌, List, [], ◌∷◌, map, ◌++◌, length, nat_le, slice_index_or}
use Rattle.venue.specs.World as world
use Rattle.wire.specs.Number.{four, four_of}
use Rattle.wire.specs.declared.item.Item.{Item}
use Rattle.wire.specs.declared.kinds.Kinds.{Kinds}
use Rattle.wire.specs.declared.message.Message.{Message}
use Rattle.wire.specs.declared.message.Message.TheVariants.{PayIn, PayOut, Place, Cancel, EndDay, BeginDay}
use Rattle.wire.specs.declared.refusal.Refusal.{Refusal}
use Rattle.wire.specs.declared.refusal.Refusal.TheVariants.{Length, NoMark, Range, Layout, Memory}
use Rattle.wire.specs.declared.refusal.Refusal.TheVariants as refusal
use Rattle.wire.specs.declared.report.Report.{Report}
use Rattle.wire.specs.declared.report.Report.TheVariants.{Taken, Refused, Trade, Torn}
use Rattle.wire.specs.declared.side.Side.{Side}
use Rattle.wire.specs.declared.side.Side.TheVariants.{Buy, Sell}

abbrev pub side_of : Side → world.Side
side_of Buy = world.buy
side_of Sell = world.sell

abbrev pub item_of : Item → world.Item
item_of i = record { price = i.price; band = i.band }

-- an item's bytes: its price's, then its band's
abbrev pub item_bytes : Item → List ℕ
item_bytes i = four_of i.price ++ four_of i.band

-- an item that has bytes
abbrev pub item_fits : Item → Type 0
item_fits i = (i.price < 2 ^ 32) × (i.band < 2 ^ 32)

-- the item whose price lies at place i, with its band behind it
abbrev pub item_in : List ℕ → ℕ → Item
item_in bs i = record { price = four bs i; band = four bs (i + 4) }

-- n numbers of four bytes each, eight bytes apart, from place i on
unfoldable pub column : List ℕ → ℕ → ℕ → List ℕ
column bs i zero = []
column bs i (suc n) = four bs i ∷ column bs (i + 8) n

-- a message that was read from these bytes, where there are so many items; an end of day whose prices do not lie in the bytes has none
abbrev pub message_of : List ℕ → ℕ → Message → world.Message
message_of bs n (PayIn a x) = world.pay_in a x
message_of bs n (PayOut a x) = world.pay_out a x
message_of bs n (Place a k s p q) = world.place a k (side_of s) p q
message_of bs n (Cancel a x) = world.cancel a x
message_of bs n (EndDay i) =
    world.pick (nat_le (i + 8 * n) (length bs)) (world.end_day (column bs i n) (column bs (i + 4) n)) (world.end_day [] [])
message_of bs n BeginDay = world.begin_day

-- the end of day that these items' prices and bands make
abbrev pub evening_of : List Item → world.Message
evening_of is = world.end_day (map (λ (i : Item). i.price) is) (map (λ (i : Item). i.band) is)

abbrev pub report_of : Report → world.Report
report_of (Taken n) = world.done n
report_of Refused = world.no
report_of (Trade n m k p x) = world.trade n m k p x
report_of (Torn a b k x) = world.torn a b k x

-- a refusal's number, and its place
abbrev pub refusal_number : Refusal → ℕ
refusal_number (Length n) = 1
refusal_number NoMark = 2
refusal_number (Range i) = 3
refusal_number (Layout b) = 4
refusal_number (Memory n) = 5
refusal_number (refusal.Message i) = 6

abbrev pub refusal_place : Refusal → ℕ
refusal_place (Length n) = n
refusal_place NoMark = 0
refusal_place (Range i) = i
refusal_place (Layout b) = b * 512
refusal_place (Memory n) = n
refusal_place (refusal.Message i) = i

-- whether a number is a kind's
abbrev pub kind_there : ℕ → Bool
kind_there h = nat_le 1 h && nat_le h 6

-- which kinds of messages a market has: kind h is the one in place h − 1
abbrev pub kinds_of : Kinds → ℕ → Bool
kinds_of k h = kind_there h && slice_index_or k.built (h - 1) false
