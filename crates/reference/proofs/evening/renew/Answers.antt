use Rattle.std.proofs.Common.{◌≡◌, ◌+◌, ◌*◌, ◌<◌, map, length, get_or, vec_items, vec_len, ap, ◌∙◌, arith, length-set}
use Rattle.std.proofs.lemmas.List.{length-map}
use Rattle.venue.specs.World.{new_items, no_item}
use Rattle.wire.specs.Means.{column, item_of}
use Rattle.wire.specs.Number.{four}
use Rattle.reference.proofs.Refill.{refill_step, refill_all, written}
use Rattle.reference.proofs.Settled.{length_new, new_at}
use Rattle.reference.proofs.evening.renew.Goals as goal

pub loop-k-preserved : goal.loop-k-preserved
loop-k-preserved c =
    let bs = c.args.bytes.now in
    let at = c.args.at in
    let n = vec_len c.args.items.now in
    let k = c.loop-k.k in
    let lt : k < n = omega (arith, c.loop-k.invariant.1) in
    let many : n ≡ length (map item_of (vec_items c.args.items.now)) = simp length-map c.args.items.now.ok.0 in
    let q : (at + 8 * k) + 4 ≡ (at + 4) + 8 * k = omega arith in
    let b : c.read.result.band ≡ four bs ((at + 4) + 8 * k) = ap (λ i. i.band) c.read.ensures ∙ ap (λ i. four bs i) q in
    let is : item_of c.read.result ≡ get_or (new_items (column bs at n) (column bs (at + 4) n)) k no_item =
    rw (new_at bs at (at + 4) n k lt, ← ap (λ i. i.price) c.read.ensures, ← b) in (
      refill_step item_of c.loop-k.item-items (new_items (column bs at n) (column bs (at + 4) n))
          (map item_of (vec_items c.args.items.now))
          k c.read.result no_item c.loop-k.invariant.0 (length_new bs at (at + 4) n ∙ many) (omega arith) is,
      simp length-set c.loop-k.invariant.1,
    )

pub returns : goal.returns
returns c =
    let n = vec_len c.args.items.now in
    let many : n ≡ length (map item_of (vec_items c.args.items.now)) = simp length-map c.args.items.now.ok.0 in
    ap (map item_of) (written n c.loop-k.item-items _ c.loop-k.invariant.1) ∙ c.loop-k.invariant.0 ∙
    refill_all (new_items (column c.args.bytes.now c.args.at n) (column c.args.bytes.now (c.args.at + 4) n))
    (map item_of (vec_items c.args.items.now)) c.loop-k.k
    (length_new c.args.bytes.now c.args.at (c.args.at + 4) n ∙ many)
    (omega (arith, many, c.loop-k.auto.k-end, c.deref_mut-item-items.ensures.len))
