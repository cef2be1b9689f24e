use Rattle.std.proofs.Common.{◌≡◌, ◌+◌, ◌*◌, ◌&&◌, map, length, get_or, drop, sym, ap, ◌∙◌, arith}
use Rattle.venue.specs.World.{prices_fit}
use Rattle.wire.specs.Means.{item_of}
use Rattle.wire.specs.Number.{four}
use Rattle.reference.proofs.Places.{blank_item}
use Rattle.reference.proofs.Settled.{rest, one_fits, fit_more, fit_none}
use Rattle.reference.proofs.evening.all_fit.Goals as goal
use Rattle.reference.proofs.evening.all_fit.Goals.{After-suits}

-- one turn: whether this item's fit, and the rest's
step : (c : goal.After-suits) →
    prices_fit (map item_of (drop c.loop-k.k c.args.items.now))
    (rest c.args.bytes.now c.args.at (length c.args.items.now) c.loop-k.k)
    (rest c.args.bytes.now (c.args.at + 4) (length c.args.items.now) c.loop-k.k) ≡
    (c.suits.result && prices_fit (map item_of (drop (c.loop-k.k + 1) c.args.items.now))
    (rest c.args.bytes.now c.args.at (length c.args.items.now) (c.loop-k.k + 1))
    (rest c.args.bytes.now (c.args.at + 4) (length c.args.items.now) (c.loop-k.k + 1)))
step c =
    let bs = c.args.bytes.now in
    let k = c.loop-k.k in
    let q : (c.args.at + 8 * k) + 4 ≡ (c.args.at + 4) + 8 * k = omega arith in
    let p : c.read.result.price ≡ four bs (c.args.at + 8 * k) = ap (λ i. i.price) c.read.ensures in
    let b : c.read.result.band ≡ four bs ((c.args.at + 4) + 8 * k) = ap (λ i. i.band) c.read.ensures ∙ ap (λ i. four bs i) q in
    let f : c.suits.result ≡ one_fits (item_of (get_or c.args.items.now k blank_item)) (four bs (c.args.at + 8 * k))
    (four bs ((c.args.at + 4) + 8 * k)) =
    rw (← p, ← b) c.suits.ensures in
    fit_more bs c.args.at (c.args.at + 4) (length c.args.items.now) c.args.items.now k c.loop-k-test.true
    c.loop-k-test.true ∙
    ap (λ x. x && prices_fit (map item_of (drop (k + 1) c.args.items.now))
    (rest bs c.args.at (length c.args.items.now) (k + 1)) (rest bs (c.args.at + 4) (length c.args.items.now) (k + 1))) (sym f)

pub returns-then-not-suits : goal.returns-then-not-suits
returns-then-not-suits c = sym (c.loop-k.invariant ∙ (rw c.if-not-suits.true at (step (goal.at.returns-then-not-suits c).After-suits)))

pub loop-k-preserved : goal.loop-k-preserved
loop-k-preserved c = c.loop-k.invariant ∙ (rw c.if-not-suits.false at (step (goal.at.loop-k-preserved c).After-suits))

pub returns : goal.returns
returns c =
    sym (c.loop-k.invariant ∙
    fit_none c.args.bytes.now c.args.at (c.args.at + 4) (length c.args.items.now) c.args.items.now c.loop-k.k
    c.loop-k-test.false c.loop-k-test.false)
