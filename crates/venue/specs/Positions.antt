-- What accounts hold, from messages and reports alone. Assumes nothing: these are definitions and statements.
use Rattle.std.specs.Prelude.{◌≡◌, ℕ, ◌&&◌, List, [], ◌∷◌, ℤ, pos, ◌+ℤ◌, ◌-ℤ◌, ◌==◌}
use Rattle.venue.specs.Morning.{given, got, sum_over}
use Rattle.venue.specs.Promise.{SoundItems}
use Rattle.venue.specs.World.{Item, Limits, Message, Report, Side, account, begin_day, buy, cancel, done, end_day, first, held, is_buy, no, pay_in}
use Rattle.venue.specs.World.{pay_out, pick, place, reports, run, torn, trade}

-- the number that an order got, by its reports
unfoldable pub number_of : List Report → ℕ
number_of [] = 0
number_of (done n ∷ rs) = n
number_of (no ∷ rs) = 0
number_of (trade n m k p x ∷ rs) = 0
number_of (torn a b k s ∷ rs) = 0

-- whose order has which number, after a message and its reports
unfoldable pub owners : (ℕ → ℕ) → Message → List Report → ℕ → ℕ
owners own (pay_in a x) rs n = own n
owners own (pay_out a x) rs n = own n
owners own (place a k s p q) rs n = pick (n == number_of rs) a (own n)
owners own (cancel a m) rs n = own n
owners own (end_day ps bs) rs n = own n
owners own begin_day rs n = own n

-- the side of a message's order
unfoldable pub side_of : Message → Side
side_of (pay_in a x) = buy
side_of (pay_out a x) = buy
side_of (place a k s p q) = s
side_of (cancel a n) = buy
side_of (end_day ps bs) = buy
side_of begin_day = buy

-- by how much account c's holding of item k changes by a report of message m: in a trade the newer order's side tells who buys
unfoldable pub change : (ℕ → ℕ) → ℕ → ℕ → Message → Report → ℤ
change own c k m (done n) = pos 0
change own c k m no = pos 0
change own c k m (trade n o j p x) =
    pick (c == pick (is_buy (side_of m)) (own n) (own o) && k == j) (pos x) (pos 0)
    -ℤ pick (c == pick (is_buy (side_of m)) (own o) (own n) && k == j) (pos x) (pos 0)
change own c k m (torn a b j s) = got c k (torn a b j s) -ℤ given c k (torn a b j s)

-- and by all messages and their reports
unfoldable pub changes : (ℕ → ℕ) → ℕ → ℕ → List Message → List (List Report) → ℤ
changes own c k [] rss = pos 0
changes own c k (m ∷ ms) [] = pos 0
changes own c k (m ∷ ms) (rs ∷ rss) = sum_over (change (owners own m rs) c k m) rs +ℤ changes (owners own m rs) c k ms rss

-- from the first morning on, what an account holds of an item is what the reports of trades and tear-ups say
unfoldable pub HeldByReports : Type 0
HeldByReports =
    (z : Limits) (is : List Item) (n c k : ℕ) (ms : List Message) → SoundItems is →
    held (account (run z (first is n) ms) c) k ≡ changes (λ (m : ℕ). 0) c k ms (reports z (first is n) ms)
