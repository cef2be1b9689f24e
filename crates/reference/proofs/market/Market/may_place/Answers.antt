use Rattle.std.proofs.Common.{◌≡◌, true, false, sym, ◌∙◌}
use Rattle.venue.specs.World.{new_order}
use Rattle.wire.specs.Means.{side_of}
use Rattle.reference.specs.Means.{world_of, order_of, limits_of}
use Rattle.reference.specs.Parts.{well_formed}
use Rattle.reference.proofs.Placings.{Well, well_tells, may_is}
use Rattle.reference.proofs.market.Market.may_place.Goals as goal
use Rattle.reference.proofs.market.Market.may_place.Goals.{Else-not-is_well_formed}

well : (c : goal.Else-not-is_well_formed) →
    Well (limits_of c.args.self.now.limits (λ k. true)) (world_of c.args.self.now) c.args.order.account c.args.order.item
    c.args.order.left
well c =
    well_tells (limits_of c.args.self.now.limits (λ k. true)) (world_of c.args.self.now) c.args.order.account c.args.order.item
    c.args.order.price c.args.order.left
    (sym (c.is_well_formed.ensures (λ k. true)) ∙ c.if-not-is_well_formed.false)

pub returns-then-not-is_well_formed-clause-value : goal.returns-then-not-is_well_formed-clause-value
returns-then-not-is_well_formed-clause-value c =
    λ k.
    let z = limits_of c.args.self.now.limits k in
    let e : well_formed (limits_of c.args.self.now.limits k) (world_of c.args.self.now) c.args.order.account c.args.order.item
    c.args.order.price c.args.order.left ≡ false =
    sym (c.is_well_formed.ensures k) ∙ c.if-not-is_well_formed.true in
    sym (may_is z (world_of c.args.self.now) c.args.order.account c.args.order.item c.args.order.price
    c.args.order.left (side_of c.args.order.side) ∙ rw e)

pub has_room-requires-clause-account : goal.has_room-requires-clause-account
has_room-requires-clause-account c =
    let w = well (goal.at.has_room-requires-clause-account c).Else-not-is_well_formed in
    w.account_in

pub has_room-requires-clause-item : goal.has_room-requires-clause-item
has_room-requires-clause-item c =
    let w = well (goal.at.has_room-requires-clause-item c).Else-not-is_well_formed in
    w.item_in

pub would_cover-requires-clause-here : goal.would_cover-requires-clause-here
would_cover-requires-clause-here c =
    let w = well (goal.at.would_cover-requires-clause-here c).Else-not-is_well_formed in
    w.account_in

pub would_cover-requires-clause-room : goal.would_cover-requires-clause-room
would_cover-requires-clause-room c =
    let w = well (goal.at.would_cover-requires-clause-room c).Else-not-is_well_formed in
    w.room

pub returns-clause-value : goal.returns-clause-value
unfolding new_order
returns-clause-value c =
    let w = world_of c.args.self.now in
    let new : new_order (world_of c.args.self.now) c.args.order.account c.args.order.item (side_of c.args.order.side)
    c.args.order.price c.args.order.left ≡ order_of c.args.order = cc in
    λ k.
    let z = limits_of c.args.self.now.limits k in
    let e = sym (c.is_well_formed.ensures k) ∙ c.if-not-is_well_formed.false in
    let r = sym c.has_room.ensures ∙ c.if-not-has_room.false in
    sym (may_is z w c.args.order.account c.args.order.item c.args.order.price c.args.order.left
    (side_of c.args.order.side) ∙ rw (e, r, new) (sym c.would_cover.ensures.value))
