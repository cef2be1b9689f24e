use Rattle.std.proofs.Common.{◌<◌, ◌≤◌, length, refl, arith, rules}
use Rattle.std.proofs.lemmas.List.{length-map}
use Rattle.reference.specs.Means.{world_of}
use Rattle.reference.proofs.UnderWay.{ends, goes_on, all_walk, onward_account, turn_room}
use Rattle.reference.proofs.market.Told.tear_all.Goals as goal

pub tear_account-requires-clause-room : goal.tear_account-requires-clause-room
tear_account-requires-clause-room c =
    let l : c.loop-a.a < length (world_of c.args.self.now.market).accounts = simp length-map (search rules) in
    turn_room all_walk (length (world_of c.args.self.now.market).accounts) c.loop-a.a c.args.self.now c.loop-a.self c.loop-a.invariant l

pub loop-a-preserved : goal.loop-a-preserved
loop-a-preserved c =
    let o = c.loop-a.invariant.onward in
    let l : c.loop-a.a < length (world_of c.args.self.now.market).accounts = simp length-map (search rules) in
    let a = o.accounts in
    let i = o.items in
    goes_on all_walk (length (world_of c.args.self.now.market).accounts) c.loop-a.a c.args.self.now c.loop-a.self c.loop-a.invariant
    c.tear_account.new.self l c.tear_account.ensures
    (onward_account (world_of c.loop-a.self.market) c.loop-a.a o.morning (omega arith))

pub returns : goal.returns
returns c =
    let l : length (world_of c.args.self.now.market).accounts ≤ c.loop-a.a = simp length-map (search rules) in
    ends all_walk (length (world_of c.args.self.now.market).accounts) c.loop-a.a c.args.self.now c.loop-a.self c.loop-a.invariant l _ refl
