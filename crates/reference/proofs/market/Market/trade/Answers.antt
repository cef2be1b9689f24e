use Rattle.std.proofs.Common.{◌≡◌, map, length, vec_items, ap, ◌∙◌, arith, w64, SFits, rules}
use Rattle.std.proofs.lemmas.Int.{ints, to_z-of_z}
use Rattle.venue.specs.World.{gets, with_orders, taken}
use Rattle.reference.specs.Means.{world_of, order_of}
use Rattle.reference.proofs.ByTrade.{traded_is}
use Rattle.reference.proofs.Room.{StillRoomy, still_roomy, roomy_orders, roomy_wider}
use Rattle.reference.proofs.market.Market.trade.Goals as goal
use Rattle.reference.proofs.market.Market.trade.Goals.{After-gets}

pub gets-requires-clause-roomy : goal.gets-requires-clause-roomy
unfolding with_orders
gets-requires-clause-roomy c =
    let w = world_of c.args.self.now in
    let os = map order_of (vec_items c.take_from.new.orders) in
    roomy_wider 1125899906842624 2147483648 1000000000000000000 1000000000000 (with_orders w os) (omega arith) (omega arith)
    (roomy_orders 1125899906842624 2147483648 w os c.requires.roomy)

-- the market between the two halves of the trade
half : (c : goal.After-gets) → StillRoomy (world_of c.args.self.now) (world_of c.gets.new.self)
unfolding with_orders
half c =
    let w = world_of c.args.self.now in
    let os = map order_of (vec_items c.take_from.new.orders) in
    let f : SFits w64 c.signed.result = search rules in
    let s = to_z-of_z w64 c.signed.result f in
    let e : world_of c.gets.new.self ≡ gets (with_orders w os) c.args.o.now.account c.args.o.now.item c.signed.result
    c.args.r.now.price = cc in
    let h = still_roomy (with_orders w os) (world_of c.gets.new.self) c.args.o.now.account c.args.o.now.item c.signed.result
    c.args.r.now.price
    e (roomy_orders 1125899906842624 2147483648 w os c.requires.roomy) c.requires.newer c.requires.item
    (omega (arith, ints, c.signed.ensures.bound.0), omega (arith, ints, c.signed.ensures.bound.1)) c.requires.price in
    record { roomy = h.roomy; accounts = h.accounts; items = h.items }

pub gets-requires-2-clause-account : goal.gets-requires-2-clause-account
gets-requires-2-clause-account c =
    let h = half (goal.at.gets-requires-2-clause-account c).After-gets in
    let a = h.accounts in
    let i = ap length h.items in
    omega (arith, c.requires.older, c.from-2.ensures)

pub gets-requires-2-clause-item : goal.gets-requires-2-clause-item
gets-requires-2-clause-item c =
    let h = half (goal.at.gets-requires-2-clause-item c).After-gets in
    let a = h.accounts in
    let i = ap length h.items in
    omega (arith, c.requires.item, c.from-item.ensures)

pub gets-requires-2-clause-roomy : goal.gets-requires-2-clause-roomy
gets-requires-2-clause-roomy c =
    (half (goal.at.gets-requires-2-clause-roomy c).After-gets).roomy

pub returns : goal.returns
unfolding with_orders
returns c =
    let w = world_of c.args.self.now in
    let f : SFits w64 c.signed.result = search rules in
    let g : SFits w64 c.signed-2.result = search rules in
    let s = to_z-of_z w64 c.signed.result f in
    let t = to_z-of_z w64 c.signed-2.result g in
    let os = map order_of (vec_items c.take_from.new.orders) in
    let e : with_orders w os ≡ with_orders w (taken c.args.j c.args.x w.orders) = ap (with_orders w) c.take_from.ensures.after in
    record {
      after =
          traded_is w (with_orders w os) (world_of c.gets.new.self) (world_of c.gets-2.new.self) (order_of c.args.o.now)
          (order_of c.args.r.now)
          c.args.j c.args.x e (cc) (cc);
      limits = c.gets-2.ensures.limits ∙ c.gets.ensures.limits;
    }
