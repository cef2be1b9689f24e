-- Payments in the members' own words, from what was said and reported. Assumes nothing: these are definitions and statements.
use Rattle.std.specs.Prelude.{◌≡◌, ℕ, ◌+◌, ◌<◌, ◌≤◌, Bool, true, false, ◌↔◌, List, [], ◌∷◌, length, ℤ, pos, ◌+ℤ◌, ◌-ℤ◌, neg_ℤ, ◌≤ℤ◌, ◌≢◌}
use Rattle.venue.specs.Promise.{SoundItems, all_cash}
use Rattle.venue.specs.Sound.{Sound}
use Rattle.venue.specs.World.{Item, Limits, Message, Report, World, account, begin_day, cancel, done, end_day, first, held, need, no, pay_in, pay_out}
use Rattle.venue.specs.World.{pick, place, reports, run, says, torn, trade}

-- whether a message was taken, by its reports: the first is done
unfoldable pub was_taken : List Report → Bool
was_taken [] = false
was_taken (done n ∷ rs) = true
was_taken (no ∷ rs) = false
was_taken (trade n m k p x ∷ rs) = false
was_taken (torn a b k s ∷ rs) = false

-- what a message would pay in, and what it would pay out
unfoldable pub pays_in : Message → ℕ
pays_in (pay_in a x) = x
pays_in (pay_out a x) = 0
pays_in (place a k s p q) = 0
pays_in (cancel a n) = 0
pays_in (end_day ps bs) = 0
pays_in begin_day = 0

unfoldable pub pays_out : Message → ℕ
pays_out (pay_in a x) = 0
pays_out (pay_out a x) = x
pays_out (place a k s p q) = 0
pays_out (cancel a n) = 0
pays_out (end_day ps bs) = 0
pays_out begin_day = 0

-- the sum of f over the messages that were taken
unfoldable pub sum_taken : (Message → ℕ) → List Message → List (List Report) → ℕ
sum_taken f [] rs = 0
sum_taken f (m ∷ ms) [] = 0
sum_taken f (m ∷ ms) (r ∷ rs) = pick (was_taken r) (f m) 0 + sum_taken f ms rs

-- from the first morning on, all cash is what was paid in less what was paid out, by the messages that were taken; no other message moves it
unfoldable pub CashByReports : Type 0
CashByReports =
    (z : Limits) (is : List Item) (n : ℕ) (ms : List Message) → SoundItems is →
    all_cash (run z (first is n) ms).accounts
    ≡ pos (sum_taken pays_in ms (reports z (first is n) ms)) -ℤ pos (sum_taken pays_out ms (reports z (first is n) ms))

-- w becomes v, where only account a's money changes, by x
pub record Moved (w v : World) (a : ℕ) (x : ℤ) : Type 0 where
  pub cash : (account v a).cash ≡ (account w a).cash +ℤ x
  pub money : pos v.money ≡ pos w.money +ℤ x
  pub others : (c : ℕ) → (c ≢ a) → (account v c).cash ≡ (account w c).cash
  pub holds : (c k : ℕ) → held (account v c) k ≡ held (account w c) k
  pub items : v.items ≡ w.items
  pub orders : v.orders ≡ w.orders
  pub trading : v.trading ≡ w.trading

-- a payment in is taken exactly if there is the account, something is paid, and all money stays within the limit
unfoldable pub PayInTaken : Type 0
PayInTaken =
    (z : Limits) (w : World) (a x : ℕ) → z.built 1 ≡ true →
    ((says z w (pay_in a x)).1 ≡ done 0 ∷ []) ↔ ((a < length w.accounts) × (1 ≤ x) × (w.money + x ≤ z.money))

-- a payment out is taken exactly if there is the account, something is paid, and what is left covers what the account needs
unfoldable pub PayOutTaken : Type 0
PayOutTaken =
    (z : Limits) (w : World) (a x : ℕ) → z.built 2 ≡ true →
    ((says z w (pay_out a x)).1 ≡ done 0 ∷ [])
    ↔ ((a < length w.accounts) × (1 ≤ x) × (need w a w.orders ≤ℤ ((account w a).cash -ℤ pos x)))

-- and then that account's money grows or falls by as much, and nothing else changes
unfoldable pub PaymentsMove : Type 0
PaymentsMove =
    ((z : Limits) (w : World) (a x : ℕ) → Sound z w → (says z w (pay_in a x)).1 ≡ done 0 ∷ [] → Moved w (says z w (pay_in a x)).0 a (pos x))
    × ((z : Limits) (w : World) (a x : ℕ) → Sound z w → (says z w (pay_out a x)).1 ≡ done 0 ∷ [] →
    Moved w (says z w (pay_out a x)).0 a (neg_ℤ (pos x)))
