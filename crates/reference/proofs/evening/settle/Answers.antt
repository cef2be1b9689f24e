use Rattle.std.proofs.Common.{◌≡◌, ◌<◌, map, length, get_or, ◌+ℤ◌, vec_items, vec_len, sym, ap, ◌∙◌, arith, w64, to_z, of_z, rules, length-set}
use mir.Syntax.{w128}
use Rattle.std.proofs.lemmas.List.{length-map, get_or-map}
use Rattle.std.proofs.lemmas.Int.{ints}
use Rattle.venue.specs.World as world
use Rattle.venue.specs.World.{paid, nobody}
use Rattle.wire.specs.Means.{column, item_of}
use Rattle.reference.specs.Means.{account_of}
use Rattle.reference.specs.Conditions.{Within}
use Rattle.reference.proofs.Products.{account_same}
use Rattle.reference.proofs.Refill.{refill_step, refill_old, refill_all, written}
use Rattle.reference.proofs.Settled.{length_paid, paid_at}
use Rattle.reference.proofs.evening.settle.Goals as goal
use Rattle.reference.proofs.evening.settle.Goals.{After-account-item, After-from}

-- the account of this turn is as it was before the loop
old : (c : goal.After-account-item) → account_of (get_or c.loop-account.account-items c.loop-account.account-index c.account-item.result) ≡
    get_or (map account_of (vec_items c.args.accounts.now)) c.loop-account.account-index nobody
old c =
    let xs = map account_of (vec_items c.args.accounts.now) in
    let new = paid (map item_of c.args.items.now) (column c.args.bytes.now c.args.at (length c.args.items.now)) xs in
    let h : c.loop-account.account-index < length c.loop-account.account-items = omega (arith, c.loop-account.auto.account-items) in
    let l : c.loop-account.account-index < length (map account_of (vec_items c.args.accounts.now)) = simp length-map
    (omega (arith, c.loop-account.invariant.1, c.args.accounts.now.ok.0)) in
    sym (get_or-map account_of c.loop-account.account-items c.loop-account.account-index c.account-item.result nobody h) ∙
    ap (λ ys. get_or ys c.loop-account.account-index nobody) c.loop-account.invariant.0 ∙
    refill_old new xs c.loop-account.account-index nobody (length_paid (map item_of c.args.items.now)
    (column c.args.bytes.now c.args.at (length c.args.items.now)) xs) l

pub gain-gain-requires-clause-shaped : goal.gain-gain-requires-clause-shaped
gain-gain-requires-clause-shaped c =
    let l : c.loop-account.account-index < vec_len c.args.accounts.now = omega (arith, c.loop-account.invariant.1, c.loop-account.auto.account-items) in
    let s = simp length-map at (rw (← old c) at (c.requires.shaped c.loop-account.account-index l)) in
    search rules

-- what the account comes to, and that it is small
sum : (c : goal.After-from) →
    (to_z w128 (of_z w128 (to_z w128 (of_z w128 c.from.result) +ℤ to_z w128 (of_z w128 c.gain-gain.result))) ≡
    (get_or (map account_of (vec_items c.args.accounts.now)) c.loop-account.account-index nobody).cash
    +ℤ world.gain 0 (map item_of c.args.items.now) (column c.args.bytes.now c.args.at (length c.args.items.now))
    (get_or (map account_of (vec_items c.args.accounts.now)) c.loop-account.account-index nobody))
    × Within 1125899906842624 (to_z w128 (of_z w128 (to_z w128 (of_z w128 c.from.result) +ℤ to_z w128 (of_z w128 c.gain-gain.result))))
sum c =
    let o = old (goal.at.After-from c).After-account-item in
    let q = ap (λ y. y.cash) o in
    let l : c.loop-account.account-index < vec_len c.args.accounts.now = omega (arith, c.loop-account.invariant.1, c.loop-account.auto.account-items) in
    let g : c.gain-gain.result ≡
    world.gain 0 (map item_of c.args.items.now) (column c.args.bytes.now c.args.at (length c.args.items.now))
    (get_or (map account_of (vec_items c.args.accounts.now)) c.loop-account.account-index nobody) =
    c.gain-gain.ensures.value ∙ ap (λ y. world.gain 0 (map item_of c.args.items.now)
    (column c.args.bytes.now c.args.at (length c.args.items.now)) y) o in
    let w = c.requires.fits c.loop-account.account-index l in
    (omega (arith, ints), (omega (arith, ints), omega (arith, ints)))

pub overflow_cast-account : goal.overflow_cast-account
overflow_cast-account c = let s = (sum c).1 in omega (arith, ints)

pub loop-account-preserved : goal.loop-account-preserved
loop-account-preserved c =
    let s = sum (goal.at.loop-account-preserved c).After-from in
    let o = old (goal.at.loop-account-preserved c).After-account-item in
    let xs = map account_of (vec_items c.args.accounts.now) in
    let new = paid (map item_of c.args.items.now) (column c.args.bytes.now c.args.at (length c.args.items.now)) xs in
    let long = length_paid (map item_of c.args.items.now) (column c.args.bytes.now c.args.at (length c.args.items.now)) xs in
    let l : c.loop-account.account-index < length (map account_of (vec_items c.args.accounts.now)) = simp length-map
    (omega (arith, c.loop-account.invariant.1, c.loop-account.auto.account-items, c.args.accounts.now.ok.0)) in
    let p = paid_at (map item_of c.args.items.now) (column c.args.bytes.now c.args.at (length c.args.items.now)) xs
    c.loop-account.account-index l in
    let low = s.1 in
    let cash : to_z w64 (of_z w64 (to_z w128 (of_z w128 (to_z w128 (of_z w128 c.from.result) +ℤ to_z w128 (of_z w128 c.gain-gain.result))))) ≡
    to_z w128 (of_z w128 (to_z w128 (of_z w128 c.from.result) +ℤ to_z w128 (of_z w128 c.gain-gain.result))) = omega (arith, ints) in (
      refill_step account_of c.loop-account.account-items new xs c.loop-account.account-index _ nobody c.loop-account.invariant.0 long l
          (account_same (cash ∙ s.0) (ap (λ y. y.holds) o) ∙ sym p),
      simp length-set c.loop-account.invariant.1,
    )

pub returns : goal.returns
returns c =
    let many : vec_len c.args.accounts.now ≡ length (map account_of (vec_items c.args.accounts.now)) = simp length-map
    c.args.accounts.now.ok.0 in
    ap (map account_of) (written (vec_len c.args.accounts.now) c.loop-account.account-items _ c.loop-account.invariant.1) ∙ c.loop-account.invariant.0 ∙
    refill_all (paid (map item_of c.args.items.now) (column c.args.bytes.now c.args.at (length c.args.items.now))
    (map account_of (vec_items c.args.accounts.now)))
    (map account_of (vec_items c.args.accounts.now)) c.loop-account.account-index
    (length_paid _ _ (map account_of (vec_items c.args.accounts.now)))
    (omega (arith, many, c.loop-account.auto.account-index-end, c.deref_mut-account-items.ensures.len))
