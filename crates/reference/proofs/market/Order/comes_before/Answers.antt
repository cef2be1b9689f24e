use Rattle.std.proofs.Common.{◌≡◌, ℕ, ◌<◌, false, List, length, get_or, Some, None, Option, sym, ◌∙◌}
use Rattle.std.proofs.lemmas.List.{get_or-map}
use Rattle.venue.specs.World as world
use Rattle.venue.specs.World.{no_order}
use Rattle.reference.specs.Means.{order_of}
use Rattle.reference.specs.Parts.{first_of}
use Rattle.reference.proofs.Places.{blank_order}
use Rattle.reference.proofs.market.Order.comes_before.Goals as goal

-- an order that cannot trade comes before none
not_first : (o : world.Order) (os : List world.Order) (i : ℕ) (best : Option ℕ) → world.meets o (get_or os i no_order) ≡ false → first_of o os i best ≡ false
unfolding first_of
not_first o os i None e = e
not_first o os i (Some j) e = rw e

pub returns-then-not-meets : goal.returns-then-not-meets
returns-then-not-meets c =
    let i = get_or-map order_of c.args.orders.now c.args.i blank_order no_order c.requires.here in
    sym (not_first _ _ _ _ (rw i (sym c.meets.ensures ∙ c.if-not-meets.true)))

pub returns-in-None : goal.returns-in-None
unfolding first_of
returns-in-None c =
    let i = get_or-map order_of c.args.orders.now c.args.i blank_order no_order c.requires.here in
    rw (c.in-None.is, i, ← c.meets.ensures, c.if-not-meets.false)

pub returns-in-Some : goal.returns-in-Some
unfolding first_of
returns-in-Some c =
    let h : c.in-Some.j < length c.args.orders.now = rw c.in-Some.is at c.requires.behind in
    let i = get_or-map order_of c.args.orders.now c.args.i blank_order no_order c.requires.here in
    let j = get_or-map order_of c.args.orders.now c.in-Some.j blank_order no_order h in
    rw (c.in-Some.is, i, j, ← c.meets.ensures, c.if-not-meets.false, ← c.prefers.ensures)
