-- What a message's first report says. Assumes nothing: these are definitions and statements.
use Rattle.std.specs.Prelude.{◌≡◌, ℕ, Bool, true, false, ◌⊎◌, List, [], ◌∷◌}
use Rattle.std.specs.List.{AllByRecursion}
use Rattle.venue.specs.World.{Limits, Message, Report, World, done, no, says, torn, trade}

-- whether a report is of a trade or of a tear-up
abbrev pub of_trade : Report → Bool
of_trade (done n) = false
of_trade no = false
of_trade (trade n m k p x) = true
of_trade (torn a b k s) = true

-- a message is refused, and this is its only report, or it is done, which is its first report, and all others are of trades and tear-ups
abbrev pub Answered : List Report → Type 0
Answered rs = (rs ≡ no ∷ []) ⊎ ((n : ℕ) × (qs : List Report) × (rs ≡ done n ∷ qs) × AllByRecursion (λ (r : Report). of_trade r ≡ true) qs)

-- every message is answered
unfoldable pub AnsweredOnce : Type 0
AnsweredOnce = (z : Limits) (w : World) (m : Message) → Answered (says z w m).1

-- a message that is refused changes nothing
unfoldable pub RefusedChangesNothing : Type 0
RefusedChangesNothing = (z : Limits) (w : World) (m : Message) → (says z w m).1 ≡ no ∷ [] → (says z w m).0 ≡ w
