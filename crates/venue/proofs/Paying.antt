-- When a payment is taken, and what it moves.
use Rattle.std.proofs.Common.{◌≡◌, ℕ, ◌+◌, ◌-◌, ◌<◌, ◌≤◌, Bool, true, ◌&&◌, ltb, leb, ◌↔◌, List, [], ◌∷◌, length, ℤ, pos, ◌+ℤ◌, ◌-ℤ◌, neg_ℤ, ◌≤ℤ◌, arith, rules}
use lib.Signed.{le_z}
use Rattle.std.proofs.lemmas.Int.{ints}
use Rattle.std.proofs.lemmas.Bool.Decides.{nat_tests}
use Rattle.venue.proofs.Cashflow.{out_within}
use Rattle.venue.proofs.Payments.{with_cash}
use Rattle.venue.proofs.Picks.{by_pick}
use Rattle.venue.proofs.Sounds.{sound_inv}
use Rattle.venue.specs.Payment.{Moved, PayInTaken, PayOutTaken, PaymentsMove}
use Rattle.venue.specs.Sound.{Sound}
use Rattle.venue.specs.World.{Limits, Report, World, account, done, held, kind, need, no, pay_in, pay_out, pick, says, says_it}
use Rattle.venue.specs.World.{with_account, with_money}

-- a message of two ways is done exactly if its test says so
pub done_if : (b : Bool) (v w : World) (n : ℕ) → ((pick {A = World × List Report} b (v, done n ∷ []) (w, no ∷ [])).1 ≡ done n ∷ []) ↔ (b ≡ true)
done_if b v w n = grind (arith, ints)

-- the tests of payments, in plain words
in_test : (n a x m l : ℕ) → ((ltb a n && (leb 1 x && leb (m + x) l)) ≡ true) ↔ ((a < n) × (1 ≤ x) × (m + x ≤ l))
in_test n a x m l = (λ e. grind (arith, nat_tests), λ h. grind (arith, nat_tests))

out_test : (n a x : ℕ) (d c : ℤ) → ((ltb a n && (leb 1 x && le_z d c)) ≡ true) ↔ ((a < n) × (1 ≤ x) × (d ≤ℤ c))
out_test n a x d c = search rules

pub is_in_taken : PayInTaken
unfolding PayInTaken says says_it kind
is_in_taken z w a x b = search rules

pub is_out_taken : PayOutTaken
unfolding PayOutTaken says says_it kind
is_out_taken z w a x b = search rules

-- account a has x more, and so have all together
moved : (w : World) (a m : ℕ) (x : ℤ) → a < length w.accounts → pos m ≡ pos w.money +ℤ x →
    Moved w (with_money (with_account w a (with_cash w a ((account w a).cash +ℤ x))) m) a x
unfolding with_money with_account account held
moved w a m x e f = search rules

-- by the way that was taken
abbrev Moves : World → ℕ → ℤ → World × List Report → Type 0
Moves w a x y = y.1 ≡ done 0 ∷ [] → Moved w y.0 a x

-- a refusal is not that
pub not_done : {A : Type 0} → no ∷ [] ≡ done 0 ∷ [] → A
not_done e = absurd cc

moves_in : (z : Limits) (w : World) (a x : ℕ) → Moves w a (pos x) (says z w (pay_in a x))
unfolding says says_it kind
moves_in z w a x =
    by_pick (Moves w a (pos x)) (z.built 1) _ _
    (λ b. by_pick (Moves w a (pos x)) (ltb a (length w.accounts) && (leb 1 x && leb (w.money + x) z.money)) _ _
    (λ t e. moved w a (w.money + x) (pos x) ((in_test _ a x w.money _).0 t).0 (omega (arith, ints))) (λ t e. not_done e))
    (λ b e. not_done e)

moves_out : (z : Limits) (w : World) (a x : ℕ) → Sound z w → Moves w a (neg_ℤ (pos x)) (says z w (pay_out a x))
unfolding says says_it kind
moves_out z w a x s =
    by_pick (Moves w a (neg_ℤ (pos x))) (z.built 2) _ _
    (λ b. by_pick (Moves w a (neg_ℤ (pos x)))
    (ltb a (length w.accounts) && (leb 1 x && le_z (need w a w.orders) ((account w a).cash -ℤ pos x))) _ _
    (λ t e.
    let h = (out_test (length w.accounts) a x (need w a w.orders) ((account w a).cash -ℤ pos x)).0 t in
    let l = out_within z w a x (sound_inv z w s) h.0 h.2 in
    moved w a (w.money - x) (neg_ℤ (pos x)) h.0 (omega (arith, ints))) (λ t e. not_done e))
    (λ b e. not_done e)

pub is_moving : PaymentsMove
unfolding PaymentsMove
is_moving = (λ z w a x s. moves_in z w a x, moves_out)
