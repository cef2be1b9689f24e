use Rattle.std.proofs.Common.{◌<◌, ◌≤◌, length, refl, arith, rules}
use Rattle.std.proofs.lemmas.List.{length-map}
use Rattle.reference.specs.Means.{world_of}
use Rattle.reference.proofs.UnderWay.{ends, goes_on, item_walk, onward_one, turn_room}
use Rattle.reference.proofs.market.Told.tear_item.Goals as goal

pub tear_with-requires-clause-room : goal.tear_with-requires-clause-room
tear_with-requires-clause-room c =
    let l : c.loop-b.b < length (world_of c.args.self.now.market).accounts = simp length-map (search rules) in
    turn_room (item_walk c.args.a c.args.k) (length (world_of c.args.self.now.market).accounts) c.loop-b.b c.args.self.now c.loop-b.self c.loop-b.invariant l

pub loop-b-preserved : goal.loop-b-preserved
loop-b-preserved c =
    let o = c.loop-b.invariant.onward in
    let l : c.loop-b.b < length (world_of c.args.self.now.market).accounts = simp length-map (search rules) in
    let a = o.accounts in
    let i = o.items in
    goes_on (item_walk c.args.a c.args.k) (length (world_of c.args.self.now.market).accounts) c.loop-b.b c.args.self.now c.loop-b.self c.loop-b.invariant
    c.tear_with.new.self l c.tear_with.ensures
    (onward_one (world_of c.loop-b.self.market) c.args.a c.loop-b.b c.args.k o.morning (omega (arith, c.requires.account))
    (omega arith) (omega (arith, c.requires.item)))

pub returns : goal.returns
returns c =
    let l : length (world_of c.args.self.now.market).accounts ≤ c.loop-b.b = simp length-map (search rules) in
    ends (item_walk c.args.a c.args.k) (length (world_of c.args.self.now.market).accounts) c.loop-b.b c.args.self.now c.loop-b.self c.loop-b.invariant l _ refl
