use Rattle.std.proofs.Common.{◌≡◌, ◌<◌, map, length, get_or, pos, vec_items, arith, w64, to_z, of_z, rules}
use Rattle.std.proofs.lemmas.Int.{ints, to_z-of_z}
use Rattle.std.proofs.lemmas.List.{length_push}
use Rattle.venue.specs.World.{need_in, held}
use Rattle.wire.specs.Means.{item_of}
use Rattle.reference.specs.Means.{order_of, account_of, held_of}
use Rattle.reference.proofs.Pairs.{At, pair_turn, pair_end}
use Rattle.reference.proofs.Places.{read_map}
use Rattle.reference.proofs.Steps.{need_more, need_none}
use Rattle.reference.proofs.needs.need.Goals as goal
use Rattle.reference.proofs.needs.need.Goals.{In-Some}

-- where the loop stands
turn : (c : goal.In-Some) → At c.args.items.now (vec_items c.args.of.now.positions) (length c.loop-k.yielded) c.in-Some.k c.in-Some.item.now
    c.in-Some.position.now
turn c =
    pair_turn c.args.items.now (vec_items c.args.of.now.positions) (omega (arith, c.requires.shaped, c.args.of.now.positions.ok.0))
    c.into_iter-k-iterator.result (cc) (cc) (cc) c.loop-k.yielded c.loop-k.k-iterator c.next.new.self c.loop-k.yielded_by c.next.result c.next.ensures.steps
    c.in-Some.k
    c.in-Some.item c.in-Some.position c.in-Some.is

pub overflow_add-sum : goal.overflow_add-sum
overflow_add-sum c =
    let t = turn (goal.at.overflow_add-sum c).In-Some in
    let h = t.here in
    let s = c.loop-k.invariant.3 in
    omega (arith, ints, s.0, s.1)

pub loop-k-preserved : goal.loop-k-preserved
unfolding held
loop-k-preserved c =
    let t = turn (goal.at.loop-k-preserved c).In-Some in
    let h = t.here in
    let n = length_push c.loop-k.yielded (c.in-Some.k, (c.in-Some.item, c.in-Some.position)) in
    let e = need_more c.args.account c.args.items.now (length c.loop-k.yielded) (account_of c.args.of.now) (map order_of c.args.orders.now)
    c.in-Some.item.now h in
    let in_row : length c.loop-k.yielded < length (vec_items c.args.of.now.positions) = omega (arith, c.requires.shaped, c.args.of.now.positions.ok.0) in
    let g : held (account_of c.args.of.now) (length c.loop-k.yielded) ≡ c.in-Some.position.now.held =
    read_map held_of (vec_items c.args.of.now.positions) (length c.loop-k.yielded) c.in-Some.position.now (pos 0) in_row t.second in
    let b : to_z w64 (of_z w64 c.in-Some.position.now.held) ≡ c.in-Some.position.now.held = search (rules, to_z-of_z) in
    let v : c.need_in-sum.result ≡ need_in c.args.account (length c.loop-k.yielded) (item_of (get_or c.args.items.now (length c.loop-k.yielded)
    c.in-Some.item.now)) (held (account_of c.args.of.now) (length c.loop-k.yielded)) (map order_of c.args.orders.now) = cc (t.place, t.first) in
    let i = c.loop-k.invariant.2 in
    let s = c.loop-k.invariant.3 in
    (search rules, search rules, rw n (omega (arith, ints, i)), rw n (omega (arith, ints, s.0, s.1), omega (arith, ints, s.0, s.1)))

pub returns-clause-value : goal.returns-clause-value
returns-clause-value c =
    let n = pair_end c.args.items.now (vec_items c.args.of.now.positions) (omega (arith, c.requires.shaped, c.args.of.now.positions.ok.0))
    c.into_iter-k-iterator.result (cc) (cc) (cc) c.loop-k.yielded c.loop-k.k-iterator c.next.new.self c.loop-k.yielded_by c.next.result
    c.next.ensures.steps c.in-None.is in
    let e = need_none c.args.account c.args.items.now (length c.loop-k.yielded) (account_of c.args.of.now) (map order_of c.args.orders.now)
    (omega arith) in
    let i = c.loop-k.invariant.2 in
    let s = c.loop-k.invariant.3 in
    omega (arith, ints, i)
