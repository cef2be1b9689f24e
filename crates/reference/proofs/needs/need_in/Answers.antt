use Rattle.std.proofs.Common.{◌≡◌, map, pos, ◌+ℤ◌, neg_ℤ, ◌-ℤ◌, sym, ◌∙◌, arith, w64, to_z, of_z}
use Rattle.std.proofs.lemmas.Int.{ints, to_z-of_z}
use Rattle.venue.specs.World.{larger, need_in}
use Rattle.wire.specs.Means.{item_of}
use Rattle.reference.specs.Means.{order_of}
use mir.Syntax.{w128}
use Rattle.reference.proofs.Products.{larger_within, max_is, need_in_is}
use Rattle.reference.proofs.needs.need_in.Goals as goal
use Rattle.reference.proofs.needs.need_in.Goals.{After-product-swing}

parts : (c : goal.After-product-swing) →
    need_in c.args.account c.args.k (item_of c.args.item) c.args.held (map order_of c.args.orders.now) ≡
    larger (c.product-swing.result +ℤ pos c.losses_of-losses.result.buys)
    (neg_ℤ c.product-swing.result +ℤ pos c.losses_of-losses.result.sells)
parts c =
    let a = to_z-of_z w64 c.args.held c.ranges.held in
    let b : to_z w64 (of_z w64 c.from.result) ≡ pos c.args.item.band = omega (arith, ints) in
    let e = rw (a, b) at c.product-swing.ensures.value in
    need_in_is _ _ _ _ _ _ _ _ e c.losses_of-losses.ensures.buys c.losses_of-losses.ensures.sells

pub returns : goal.returns
returns c =
    let s = c.product-swing.ensures.bound in
    let m = c.losses_of-losses.ensures.bound in
    let falls : to_z w128 (of_z w128 (to_z w128 (of_z w128 c.product-swing.result) +ℤ to_z w128 c.losses_of-losses.result.buys)) ≡
    c.product-swing.result +ℤ pos c.losses_of-losses.result.buys = omega (arith, ints, s.0, s.1) in
    let rises : to_z w128 (of_z w128 (to_z w128 c.losses_of-losses.result.sells -ℤ to_z w128 (of_z w128 c.product-swing.result))) ≡
    neg_ℤ c.product-swing.result +ℤ pos c.losses_of-losses.result.sells = omega (arith, ints, s.0, s.1) in
    let e : c.max.result ≡ larger (c.product-swing.result +ℤ pos c.losses_of-losses.result.buys)
    (neg_ℤ c.product-swing.result +ℤ pos c.losses_of-losses.result.sells) =
    (rw (falls, rises) at c.max.ensures.value) ∙
    max_is (c.product-swing.result +ℤ pos c.losses_of-losses.result.buys) (neg_ℤ c.product-swing.result +ℤ pos c.losses_of-losses.result.sells) in
    let w = larger_within 633825300114114700748351602688 (c.product-swing.result +ℤ pos c.losses_of-losses.result.buys)
    (neg_ℤ c.product-swing.result +ℤ pos c.losses_of-losses.result.sells)
    (omega (arith, ints, s.0, s.1), omega (arith, ints, s.0, s.1)) (omega (arith, ints, s.0, s.1), omega (arith, ints, s.0, s.1)) in
    let z : to_z w128 (of_z w128 c.max.result) ≡ c.max.result = omega (arith, ints) in
    record { value = z ∙ e ∙ sym (parts (goal.at.returns c).After-product-swing); bound = rw (z, e) w }
