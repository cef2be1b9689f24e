use Rattle.std.proofs.Common.{◌≡◌, map, nat_abs, vec_items, sym, ap, ◌∙◌, w64, to_z, of_z, rules}
use Rattle.std.proofs.lemmas.Int.{to_z-of_z}
use Rattle.venue.specs.World as world
use Rattle.venue.specs.World.{account, held, abs}
use Rattle.reference.specs.Means.{world_of, order_of}
use Rattle.reference.proofs.Products.{abs_is}
use Rattle.reference.proofs.market.Market.has_room.Goals as goal

pub returns : goal.returns
returns c =
    let z : to_z w64 (of_z w64 c.held_of-held.result) ≡ c.held_of-held.result = search (rules, to_z-of_z) in
    let a : c.unsigned_abs.result ≡ abs (held (account (world_of c.args.self.now) c.args.order.now.account)
    c.args.order.now.item) =
    c.unsigned_abs.ensures.value ∙ ap nat_abs (z ∙ c.held_of-held.ensures.value) ∙ sym (abs_is _) in
    let t : c.standing.result ≡ world.standing c.args.order.now.account c.args.order.now.item
    (map order_of (vec_items c.args.self.now.orders)) =
    c.standing.ensures.value ∙ ap (λ os. world.standing c.args.order.now.account c.args.order.now.item (map order_of os))
    c.deref.ensures.value in
    cc
