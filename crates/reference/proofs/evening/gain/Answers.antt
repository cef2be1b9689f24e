use Rattle.std.proofs.Common.{◌≡◌, ℕ, ◌+◌, ◌*◌, ◌<◌, length, ℤ, pos, ◌+ℤ◌, ◌-ℤ◌, vec_items, ap, ◌∙◌, arith, w64, to_z, of_z, rules}
use mir.Syntax.{w128}
use Rattle.reference.specs.Conditions.{Within}
use Rattle.std.proofs.lemmas.Int.{ints, to_z-of_z}
use Rattle.std.proofs.lemmas.List.{length_push}
use Rattle.venue.specs.World.{held}
use Rattle.wire.specs.Number.{four}
use Rattle.reference.specs.Means.{account_of, held_of}
use Rattle.reference.proofs.Pairs.{At, pair_turn, pair_end}
use Rattle.reference.proofs.Places.{read_map}
use Rattle.reference.proofs.Settled.{gain_more, gain_none}
use Rattle.reference.proofs.evening.gain.Goals as goal
use Rattle.reference.proofs.evening.gain.Goals.{In-Some}

-- where the loop stands
turn : (c : goal.In-Some) → At c.args.items.now (vec_items c.args.account.now.positions) (length c.loop-k.yielded) c.in-Some.k c.in-Some.item.now
    c.in-Some.position.now
turn c =
    pair_turn c.args.items.now (vec_items c.args.account.now.positions) (omega (arith, c.requires.shaped, c.args.account.now.positions.ok.0))
    c.into_iter-k-iterator.result (cc) (cc) (cc) c.loop-k.yielded c.loop-k.k-iterator c.next.new.self c.loop-k.yielded_by c.next.result
    c.next.ensures.steps c.in-Some.k c.in-Some.item c.in-Some.position c.in-Some.is

pub product-sum-requires : goal.product-sum-requires
product-sum-requires c = (omega (arith, ints), omega (arith, ints))

-- one gain more, which fits, and what is to come
summed : (k : ℕ) (s d : ℤ) → k < 256 → Within (39614081257132168796771975168 * k) s → Within 39614081257132168796771975168 d →
    (to_z w128 (of_z w128 (s +ℤ to_z w128 (of_z w128 d))) ≡ s +ℤ d) × Within (39614081257132168796771975168 * (k + 1)) (s +ℤ d)
summed k s d h p q = (omega (arith, ints), (omega (arith, ints), omega (arith, ints)))

turned : (s g d r t : ℤ) {e : ℤ} → s +ℤ g ≡ t → g ≡ e +ℤ r → d ≡ e → (s +ℤ d) +ℤ r ≡ t
turned s g d r t a b x = omega (arith, ints)

pub overflow_add-sum : goal.overflow_add-sum
overflow_add-sum c =
    let t = turn (goal.at.overflow_add-sum c).In-Some in
    let h = t.here in
    let s = c.loop-k.invariant.3 in
    omega (arith, ints, s.0, s.1)

pub loop-k-preserved : goal.loop-k-preserved
unfolding held
loop-k-preserved c =
    let t = turn (goal.at.loop-k-preserved c).In-Some in
    let h = t.here in
    let k = length c.loop-k.yielded in
    let n = length_push c.loop-k.yielded (c.in-Some.k, (c.in-Some.item, c.in-Some.position)) in
    let e = gain_more c.args.bytes.now c.args.at c.args.at (length c.args.items.now) c.args.items.now k (account_of c.args.account.now)
    c.in-Some.item.now h h in
    let in_row : k < length (vec_items c.args.account.now.positions) = omega (arith, c.requires.shaped, c.args.account.now.positions.ok.0) in
    let g : held (account_of c.args.account.now) (length c.loop-k.yielded) ≡ c.in-Some.position.now.held =
    read_map held_of (vec_items c.args.account.now.positions) k c.in-Some.position.now (pos 0) in_row t.second in
    let b : to_z w64 (of_z w64 c.in-Some.position.now.held) ≡ c.in-Some.position.now.held = search (rules, to_z-of_z) in
    let p : c.read-new.result.price ≡ four c.args.bytes.now (c.args.at + 8 * length c.loop-k.yielded) =
    ap (λ i. i.price) c.read-new.ensures ∙ ap (λ m. four c.args.bytes.now (c.args.at + 8 * m)) t.place in
    let f = ap (λ i. i.price) t.first in
    let d : to_z w64 (of_z w64 (to_z w64 (of_z w64 c.from.result) -ℤ to_z w64 (of_z w64 c.from-in-loop-k.result))) ≡
    pos c.read-new.result.price -ℤ pos c.in-Some.item.now.price = omega (arith, ints) in
    let v = rw (b, d, ← g, p, f) at c.product-sum.ensures.value in
    let i = c.loop-k.invariant.2 in
    let s = c.loop-k.invariant.3 in
    let z = summed (length c.loop-k.yielded) (to_z w128 c.loop-k.sum-bits) c.product-sum.result (omega (arith, c.requires.few)) s c.product-sum.ensures.bound in (
      search rules,
      search rules,
      rw (n, z.0) (turned _ _ _ _ _ i e v),
      rw (n, z.0) z.1,
    )

pub returns-clause-value : goal.returns-clause-value
returns-clause-value c =
    let n = pair_end c.args.items.now (vec_items c.args.account.now.positions) (omega (arith, c.requires.shaped, c.args.account.now.positions.ok.0))
    c.into_iter-k-iterator.result (cc) (cc) (cc) c.loop-k.yielded c.loop-k.k-iterator c.next.new.self c.loop-k.yielded_by c.next.result
    c.next.ensures.steps c.in-None.is in
    let e = gain_none c.args.bytes.now c.args.at c.args.at (length c.args.items.now) c.args.items.now (length c.loop-k.yielded)
    (account_of c.args.account.now) (omega arith) in
    let i = c.loop-k.invariant.2 in
    let s = c.loop-k.invariant.3 in
    omega (arith, ints, i)
