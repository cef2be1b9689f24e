use Rattle.std.proofs.Common.{◌≡◌, map, vec_items, vec_capacity}
use Rattle.wire.specs.Means.{report_of}
use Rattle.reference.specs.Means.{order_of, world_of}
use Rattle.reference.specs.Conditions.{Filling}
use Rattle.reference.specs.Does.{HasRoom}
use Rattle.reference.specs.Parts.{after, filled}
use Rattle.reference.proofs.Orders.{IsBest}
use Rattle.reference.proofs.market.Told.fill.Given as goal

-- `best` is the best of the orders from place i on
abbrev pub invariant-loop-i : goal.invariant-loop-i
invariant-loop-i l = IsBest (order_of l.o) (world_of l.self.market).orders l.i l.best

-- what was reported and what is to come is the whole
abbrev pub invariant-filling : goal.invariant-filling
invariant-filling l =
    (after (map report_of (vec_items l.self.reports)) (filled (world_of l.self.market) (order_of l.o)) ≡
    after (map report_of (vec_items l.initial.self.reports)) (filled (world_of l.initial.self.market) (order_of l.initial.o)))
    × Filling l.self.market.limits (world_of l.self.market) (order_of l.o)
    × HasRoom l.self (λ w. filled w (order_of l.o))
    × (l.self.market.limits ≡ l.initial.self.market.limits)
    × (vec_capacity l.self.reports ≡ vec_capacity l.initial.self.reports)

abbrev pub decreases-filling : goal.decreases-filling
decreases-filling l = l.o.left
