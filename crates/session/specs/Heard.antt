-- What telling a market one message of a file gives. Assumes nothing: these are definitions.
use Rattle.std.specs.Prelude.{◌≡◌, ℕ, ◌+◌, ◌<◌, ◌≤◌, List, length, Some, None, Ok, Err, Result}
use Rattle.reference.specs.Plain.{plain_limits, plain_reports, plain_world}
use Rattle.reference.specs.declared.plain_market.PlainMarket.{PlainMarket}
use Rattle.venue.specs.World as world
use Rattle.wire.specs.Messages.{reads}
use Rattle.wire.specs.declared.refusal.Refusal.{Refusal}
use Rattle.wire.specs.declared.refusal.Refusal.TheVariants as refusal

-- w becomes v by hearing m, with its reports
abbrev pub Told : world.Message → PlainMarket → PlainMarket → Type 0
Told m w v =
    (plain_world v ≡ (world.says (plain_limits w) (plain_world w) m).0)
    × (plain_reports v ≡ (world.says (plain_limits w) (plain_world w) m).1)
    × (plain_limits v ≡ plain_limits w)

-- the market w hears the message at place i and becomes v, and the place behind the message is given, which is farther and within the file;
-- or there is no message, which is refused at i, and the market is as it was
abbrev pub Heard : List ℕ → ℕ → PlainMarket → PlainMarket → Result ℕ Refusal → Type 0
Heard bs i w v (Ok next) =
    ((m : world.Message) × (k : ℕ) × (reads bs i (length (plain_world w).items) ≡ Some (m, k)) × (next ≡ i + k) × Told m w v)
    × (i < next) × (next ≤ length bs)
Heard bs i w v (Err e) = (reads bs i (length (plain_world w).items) ≡ None) × (e ≡ refusal.Message i) × (v ≡ w)
