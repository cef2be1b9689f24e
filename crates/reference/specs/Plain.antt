-- What a plain market holds and last reported. Assumes nothing: these are definitions.
use Rattle.std.specs.Prelude.{List, map, vec_items}
use Rattle.venue.specs.World as world
use Rattle.wire.specs.Means.{kinds_of, report_of}
use Rattle.reference.specs.Means.{limits_of, world_of}
use Rattle.reference.specs.declared.plain_market.PlainMarket.{PlainMarket}

-- its limits, with the kinds of messages that it has
abbrev pub plain_limits : PlainMarket → world.Limits
plain_limits m = limits_of m.told.market.limits (kinds_of m.kinds)

-- the market in it
abbrev pub plain_world : PlainMarket → world.World
plain_world m = world_of m.told.market

-- the reports of the last message
abbrev pub plain_reports : PlainMarket → List world.Report
plain_reports m = map report_of (vec_items m.told.reports)
