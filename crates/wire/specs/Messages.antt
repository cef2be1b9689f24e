-- Messages in bytes: the kind, then account, item, side, price, quantity, money and order number as the kind needs them.
-- Assumes nothing: these are definitions.
use Rattle.std.specs.Prelude.{◌≡◌, ℕ, ◌+◌, ◌*◌, ◌^◌, ◌<◌, ◌≤◌, Bool, true, List, [], ◌∷◌, ◌++◌, length, take, drop, Some, None, Ok, Err, Option, Result, ◌==◌, nat_le, slice_index}
use Rattle.std.specs.List.{AllByRecursion}
use Rattle.venue.specs.World as world
use Rattle.venue.specs.World.{pick}
use Rattle.wire.specs.Number.{two, four, eight, two_of, four_of, eight_of}
use Rattle.wire.specs.Means.{column, message_of}
use Rattle.wire.specs.declared.message.Message.{Message}
use Rattle.wire.specs.declared.message.Message.TheVariants.{PayIn, PayOut, Place, Cancel, EndDay, BeginDay}
use Rattle.wire.specs.declared.refusal.Refusal.{Refusal}
use Rattle.wire.specs.declared.refusal.Refusal.TheVariants as refusal

-- x, with its length of k bytes from place i on, if there are as many
abbrev pub whole : {A : Type 0} → List ℕ → ℕ → ℕ → A → Option (A × ℕ)
whole bs i k x = pick (nat_le (i + k) (length bs)) (Some (x, k)) None

-- a side in a byte
abbrev pub side_in : ℕ → world.Side
side_in b = pick (b == 0) world.buy world.sell

abbrev pub side_byte : world.Side → ℕ
side_byte world.buy = 0
side_byte world.sell = 1

-- the order that the bytes at place i place, with its length; a side above 1 is none
unfoldable pub reads_place : List ℕ → ℕ → Option (world.Message × ℕ)
reads_place bs i =
    pick (nat_le (slice_index bs (i + 5)) 1)
    (whole bs i 14 (world.place (two bs (i + 1)) (two bs (i + 3)) (side_in (slice_index bs (i + 5))) (four bs (i + 6)) (four bs (i + 10))))
    None

-- the message of kind h that the bytes hold at place i, where there are n items, and its length
abbrev pub reads_kind : ℕ → List ℕ → ℕ → ℕ → Option (world.Message × ℕ)
reads_kind h bs i n =
    pick (h == 1) (whole bs i 11 (world.pay_in (two bs (i + 1)) (eight bs (i + 3))))
    (pick (h == 2) (whole bs i 11 (world.pay_out (two bs (i + 1)) (eight bs (i + 3))))
    (pick (h == 3) (reads_place bs i)
    (pick (h == 4) (whole bs i 11 (world.cancel (two bs (i + 1)) (eight bs (i + 3))))
    (pick (h == 5) (whole bs i (1 + 8 * n) (world.end_day (column bs (i + 1) n) (column bs (i + 5) n)))
    (pick (h == 6) (whole bs i 1 world.begin_day)
    None)))))

-- the message that the bytes hold at place i, by the kind that stands there: none where that is unknown or the bytes end too soon
unfoldable pub reads : List ℕ → ℕ → ℕ → Option (world.Message × ℕ)
reads bs i n = reads_kind (slice_index bs i) bs i n

-- the bytes of prices and bands, in turn
unfoldable pub pairs : List ℕ → List ℕ → List ℕ
pairs [] bs = []
pairs (p ∷ ps) [] = []
pairs (p ∷ ps) (b ∷ bs) = (four_of p ++ four_of b) ++ pairs ps bs

-- the bytes of a message
unfoldable pub writes : world.Message → List ℕ
writes (world.pay_in a x) = 1 ∷ (two_of a ++ eight_of x)
writes (world.pay_out a x) = 2 ∷ (two_of a ++ eight_of x)
writes (world.place a k s p q) = 3 ∷ (two_of a ++ (two_of k ++ (side_byte s ∷ (four_of p ++ four_of q))))
writes (world.cancel a x) = 4 ∷ (two_of a ++ eight_of x)
writes (world.end_day ps bs) = 5 ∷ pairs ps bs
writes world.begin_day = 6 ∷ []

-- a message that has bytes, where there are n items
unfoldable pub Fits : ℕ → world.Message → Type 0
Fits n (world.pay_in a x) = (a < 2 ^ 16) × (x < 2 ^ 64)
Fits n (world.pay_out a x) = (a < 2 ^ 16) × (x < 2 ^ 64)
Fits n (world.place a k s p q) = (a < 2 ^ 16) × (k < 2 ^ 16) × (p < 2 ^ 32) × (q < 2 ^ 32)
Fits n (world.cancel a x) = (a < 2 ^ 16) × (x < 2 ^ 64)
Fits n (world.end_day ps bs) =
    (length ps ≡ n) × (length bs ≡ n) × AllByRecursion (λ p. p < 2 ^ 32) ps × AllByRecursion (λ b. b < 2 ^ 32) bs
Fits n world.begin_day = Unit {0}

-- whether a message's prices lie in the bytes that it was read from; only an end of day has any
abbrev pub has_prices : List ℕ → ℕ → Message → Bool
has_prices bs n (PayIn a x) = true
has_prices bs n (PayOut a x) = true
has_prices bs n (Place a k s p q) = true
has_prices bs n (Cancel a x) = true
has_prices bs n (EndDay i) = nat_le (i + 8 * n) (length bs)
has_prices bs n BeginDay = true

-- what a reader at place i gives: the message that lies there and its length, or the refusal of that place where there is none
abbrev pub Read : List ℕ → ℕ → ℕ → Result (Message × ℕ) Refusal → Type 0
Read bs i n (Ok p) = (reads bs i n ≡ Some (message_of bs n p.0, p.1)) × (1 ≤ p.1) × (i + p.1 ≤ length bs)
Read bs i n (Err e) = (reads bs i n ≡ None) × (e ≡ refusal.Message i)

-- and the bytes there are those that writing the message gives, which fits
abbrev pub AsWritten : List ℕ → ℕ → ℕ → Result (Message × ℕ) Refusal → Type 0
AsWritten bs i n (Ok p) = (take p.1 (drop i bs) ≡ writes (message_of bs n p.0)) × Fits n (message_of bs n p.0)
AsWritten bs i n (Err e) = Unit {0}
