use Rattle.std.proofs.Common.{◌≡◌, ◌<◌, map, length, get_or, vec_items, sym, ap, ◌∙◌, rules}
use borrow.Author.Rules.{get_or_read}
use Rattle.venue.specs.World.{less_left}
use Rattle.reference.specs.Means.{order_of}
use Rattle.reference.proofs.Places.{blank_order}
use Rattle.reference.proofs.Orders.{taken_all, taken_some}
use Rattle.reference.proofs.matching.take_from.Goals as goal

pub returns-then-index-x-clause-after : goal.returns-then-index-x-clause-after
returns-then-index-x-clause-after c =
    let os = vec_items c.args.orders.now in
    let a : c.index.result.now ≡ get_or os c.args.j blank_order = search (rules, get_or_read) in
    let h : c.args.j < length os = search rules in
    ap (map order_of) c.remove.ensures.items ∙ sym (taken_all os c.args.j c.args.x h (rw (← a) c.if-index-x.true))

pub returns-else-index-x-clause-after : goal.returns-else-index-x-clause-after
unfolding less_left
returns-else-index-x-clause-after c =
    let os = vec_items c.args.orders.now in
    let a : c.index.result.now ≡ get_or os c.args.j blank_order = search (rules, get_or_read) in
    let b : c.index_mut.result.now ≡ get_or os c.args.j blank_order = search (rules, get_or_read) in
    let h : c.args.j < length os = search rules in
    sym (taken_some os c.args.j c.args.x _ h (rw (← a) c.if-index-x.false) (rw (← b)))
