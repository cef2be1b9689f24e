use Rattle.std.proofs.Common.{◌≡◌, map, length, replicate, pos, vec_items, ap, ◌∙◌}
use Rattle.disc.specs.Means.{header_of}
use Rattle.venue.specs.World.{first}
use Rattle.wire.specs.Means.{item_of}
use Rattle.reference.specs.Means.{account_of}
use Rattle.reference.proofs.plain_market.making.first_market.Goals as goal

pub returns : goal.returns
unfolding first
returns c =
    let n = header_of c.args.header.now in
    let i : map item_of (vec_items c.in_ok-items.items) ≡ (header_of c.args.header.now).items =
    ap (map item_of) c.in_ok-items.ensures.items ∙ c.items.ensures in
    let a : map account_of (vec_items c.in_ok-accounts.accounts) ≡ replicate n.accounts
    (record { cash = pos 0; holds = replicate (length n.items) (pos 0) }) =
    c.in_ok-accounts.ensures ∙ rw (c.accounts.ensures.value, c.count.ensures.value) in
    (rw (i, a, c.in_ok-orders.ensures.items), c.orders-2.ensures.value, c.money.ensures.value)
