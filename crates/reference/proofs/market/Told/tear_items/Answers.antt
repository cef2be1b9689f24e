use Rattle.std.proofs.Common.{◌<◌, ◌≤◌, length, refl, arith, rules}
use Rattle.std.proofs.lemmas.List.{length-map}
use Rattle.reference.specs.Means.{world_of}
use Rattle.reference.proofs.UnderWay.{ends, goes_on, items_walk, onward_item, turn_room}
use Rattle.reference.proofs.market.Told.tear_items.Goals as goal

pub tear_item-requires-clause-room : goal.tear_item-requires-clause-room
tear_item-requires-clause-room c =
    let l : c.loop-k.k < length (world_of c.args.self.now.market).items = simp length-map (search rules) in
    turn_room (items_walk c.args.a) (length (world_of c.args.self.now.market).items) c.loop-k.k c.args.self.now c.loop-k.self c.loop-k.invariant l

pub loop-k-preserved : goal.loop-k-preserved
loop-k-preserved c =
    let o = c.loop-k.invariant.onward in
    let l : c.loop-k.k < length (world_of c.args.self.now.market).items = simp length-map (search rules) in
    let a = o.accounts in
    let i = o.items in
    goes_on (items_walk c.args.a) (length (world_of c.args.self.now.market).items) c.loop-k.k c.args.self.now c.loop-k.self c.loop-k.invariant
    c.tear_item.new.self l c.tear_item.ensures
    (onward_item (world_of c.loop-k.self.market) c.args.a c.loop-k.k o.morning (omega (arith, c.requires.account)) (omega arith))

pub returns : goal.returns
returns c =
    let l : length (world_of c.args.self.now.market).items ≤ c.loop-k.k = simp length-map (search rules) in
    ends (items_walk c.args.a) (length (world_of c.args.self.now.market).items) c.loop-k.k c.args.self.now c.loop-k.self c.loop-k.invariant l _ refl
