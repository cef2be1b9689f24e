-- The rules of the test that go by the limits. They ask of items that there are; past them nobody holds anything and no order stands.
use Rattle.std.proofs.Common.{◌≡◌, ℕ, ◌+◌, ◌<◌, ◌≤◌, Bool, leb, List, [], ◌∷◌, length, pos, refl, ap, ◌∙◌, ⊎_elim, arith, rules}
use Rattle.std.specs.List.{AllByRecursion}
use Rattle.std.proofs.ByRecursion.{All-weaker}
use Rattle.std.proofs.lemmas.Bool.{cases_lt}
use Rattle.std.proofs.lemmas.List.{get_or_past}
use Rattle.venue.proofs.Gets.{wide_at}
use Rattle.venue.proofs.Picks.{abs_pos}
use Rattle.std.specs.Bool.{Decides}
use Rattle.std.proofs.lemmas.Bool.Decides.{Decides-like}
use Rattle.venue.proofs.Tests.{of_below}
use Rattle.venue.specs.Invariant.{Placed, Wide, Within}
use Rattle.venue.specs.Sound.{below, holds_fit, limits_hold}
use Rattle.venue.specs.World.{Limits, Order, World, abs, account, held, standing}

standing_past : (a n k : ℕ) (os : List Order) → AllByRecursion (λ (o : Order). o.item < n) os → n ≤ k → standing a k os ≡ 0
unfolding standing
standing_past a n k [] p h = refl
standing_past a n k (o ∷ os) p h = search (rules, standing_past a n k os p.1 h)

held_past : (w : World) (n a k : ℕ) → AllByRecursion (Wide n) w.accounts → a < length w.accounts → n ≤ k → abs (held (account w a) k) ≡ 0
unfolding held
held_past w n a k p h g = let l = wide_at n w a h p in ap abs (get_or_past (account w a).holds k (pos 0) (omega arith)) ∙ abs_pos 0

pub of_holds : (z : Limits) (w : World) → AllByRecursion (Wide (length w.items)) w.accounts → AllByRecursion (Placed (length w.accounts) w.items) w.orders →
    Decides (holds_fit z w) (Within z.holding w w.orders)
unfolding holds_fit
of_holds z w f g =
    Decides-like _
    (λ p a k h. ⊎_elim (λ (u : k < length w.items). p a h k u)
    (λ (u : length w.items ≤ k). omega (arith, held_past w (length w.items) a k f h u, standing_past a (length w.items) k w.orders few u))
    (cases_lt k (length w.items)))
    (λ p a h k u. p a k h)
    (of_below (λ (a : ℕ). below (length w.items) (λ (k : ℕ). fits a k)) (λ (a : ℕ). (k : ℕ) → k < length w.items → Fits a k)
    (λ a. of_below (λ (k : ℕ). fits a k) (λ (k : ℕ). Fits a k)
    (λ k. search rules) (length w.items))
    (length w.accounts))
  where
    fits : ℕ → ℕ → Bool
    fits a k = leb (abs (held (account w a) k) + standing a k w.orders) z.holding

    Fits : ℕ → ℕ → Type 0
    Fits a k = abs (held (account w a) k) + standing a k w.orders ≤ z.holding

    few : AllByRecursion (λ (o : Order). o.item < length w.items) w.orders
    few = All-weaker (Placed (length w.accounts) w.items) (λ (o : Order). o.item < length w.items) (λ o h. h.1) w.orders g

pub of_limits : (z : Limits) (w : World) →
    Decides (limits_hold z w) (((length w.orders ≤ z.orders) × (w.money ≤ z.money)) × (w.next ≤ 9223372036854775808))
unfolding limits_hold
of_limits z w = search rules
