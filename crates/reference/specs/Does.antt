-- What a method does to the market, and to what was reported. Assumes nothing: these are definitions.
use Rattle.std.specs.Prelude.{◌≡◌, ◌+◌, ◌≤◌, Bool, List, map, length, vec_items, vec_len, vec_capacity}
use Rattle.venue.specs.World as world
use Rattle.wire.specs.Means.{report_of}
use Rattle.reference.specs.Means.{world_of}
use Rattle.reference.specs.Parts as parts
use Rattle.reference.specs.declared.market.Market.{Market}
use Rattle.reference.specs.declared.market.Told.{Told}

-- the market becomes w, and its limits are as before
pub record Becomes (old new : Market) (w : world.World) : Type 0 where
  pub after : world_of new ≡ w
  pub limits : new.limits ≡ old.limits

-- the market does what a message says that has one report, whether it was taken; its limits are as before
pub record Obeys (z : world.Limits) (m : world.Message) (old new : Market) (taken : Bool) : Type 0 where
  pub after : world.says_it z (world_of old) m ≡ (world_of new, parts.answer taken)
  pub limits : new.limits ≡ old.limits

-- there is room for all that f reports of the market. This stands in contracts, since f is what the very call does
abbrev pub HasRoom : Told → (world.World → world.World × List world.Report) → Type 0
HasRoom t f = vec_len t.reports + length (f (world_of t.market)).1 ≤ vec_capacity t.reports

-- the market becomes what f makes of it, and what f reports comes after what was reported; its limits and the room for reports are as before
pub record Tells (old new : Told) (f : world.World → world.World × List world.Report) : Type 0 where
  pub after : (world_of new.market, map report_of (vec_items new.reports)) ≡ parts.after (map report_of (vec_items old.reports)) (f (world_of old.market))
  pub limits : new.market.limits ≡ old.market.limits
  pub reports : vec_capacity new.reports ≡ vec_capacity old.reports
