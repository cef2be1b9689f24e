use Rattle.std.proofs.Common.{◌≡◌, ℕ, suc, ◌+◌, ◌<◌, ◌≤◌, Bool, [], ◌∷◌, map, length, vec_items, vec_len, vec_capacity, sym, ap, ◌∙◌, subst, arith}
use Rattle.venue.proofs.Sounds.{turn_begins}
use Rattle.venue.specs.Turn.{Turn}
use Rattle.venue.specs.World as world
use Rattle.venue.specs.World.{World, counted, new_order, says_it, done, no}
use Rattle.wire.specs.Means.{report_of, side_of}
use Rattle.reference.specs.Means.{world_of, order_of, limits_of}
use Rattle.reference.specs.Conditions.{Filling}
use Rattle.reference.specs.Parts.{after, filled}
use Rattle.reference.proofs.Fills.{after_more, after_one}
use Rattle.reference.proofs.Placings.{not_placed, placed, counted_is}
use Rattle.reference.proofs.Reported.{one_more}
use Rattle.reference.proofs.market.Told.place.Goals as goal
use Rattle.reference.proofs.market.Told.place.Goals.{Else-not-may_place}

pub push_reserved-requires : goal.push_reserved-requires
push_reserved-requires c =
    let k = c.requires.sound.0 in
    let w = world_of c.args.self.now.market in
    let n = not_placed (limits_of c.args.self.now.market.limits k) w c.args.order.account c.args.order.item c.args.order.price
    c.args.order.left (side_of c.args.order.side)
    (sym (c.may_place.ensures.value k) ∙ c.if-not-may_place.true) in
    let l = ap (λ p. length p.1) n in
    omega (arith, c.requires.room k)

pub returns-then-not-may_place : goal.returns-then-not-may_place
unfolding after
returns-then-not-may_place c =
    let w = world_of c.args.self.now.market in
    let p = one_more _ _ _ c.push_reserved.ensures.items in
    λ k. record {
      after = let n = not_placed (limits_of c.args.self.now.market.limits k) w c.args.order.account c.args.order.item c.args.order.price
          c.args.order.left (side_of c.args.order.side)
          (sym (c.may_place.ensures.value k) ∙ c.if-not-may_place.true) in
          rw (c.may_place.ensures.same.after, p, n);
      limits = c.may_place.ensures.same.limits;
      reports = c.push_reserved.ensures.capacity;
    }

-- the order is taken: what is said, and that its number can be counted
record Taken (c : goal.Else-not-may_place) : Type 0 where
  says : (k : ℕ → Bool) → says_it (limits_of c.args.self.now.market.limits k) (world_of c.args.self.now.market)
      (world.place c.args.order.account c.args.order.item (side_of c.args.order.side) c.args.order.price c.args.order.left) ≡
      after (done c.args.self.now.market.next ∷ []) (filled (counted (world_of c.args.self.now.market)) (order_of c.args.order))
  filling : Filling c.args.self.now.market.limits (counted (world_of c.args.self.now.market)) (order_of c.args.order)
  number : c.args.self.now.market.next < 9223372036854775808
  room : vec_len c.args.self.now.reports + suc (length (filled (counted (world_of c.args.self.now.market)) (order_of c.args.order)).1) ≤ vec_capacity
      c.args.self.now.reports

is_taken : (c : goal.Else-not-may_place) → Taken c
unfolding new_order counted
is_taken c =
    let k = c.requires.sound.0 in
    let z = limits_of c.args.self.now.market.limits k in
    let w = world_of c.args.self.now.market in
    let o = c.args.order in
    let new : new_order (world_of c.args.self.now.market) c.args.order.account c.args.order.item (side_of c.args.order.side)
    c.args.order.price c.args.order.left ≡ order_of c.args.order = cc in
    let may = sym (c.may_place.ensures.value k) ∙ c.if-not-may_place.false in
    let t = turn_begins z w o.account o.item (side_of o.side) o.price o.left c.requires.sound.1 may in
    let said : (k : ℕ → Bool) → says_it (limits_of c.args.self.now.market.limits k) (world_of c.args.self.now.market)
    (world.place c.args.order.account c.args.order.item (side_of c.args.order.side) c.args.order.price
    c.args.order.left) ≡
    after (done c.args.self.now.market.next ∷ []) (filled (counted (world_of c.args.self.now.market)) (order_of c.args.order)) =
    λ k. placed (limits_of c.args.self.now.market.limits k) w o.account o.item o.price o.left (side_of o.side)
    (sym (c.may_place.ensures.value k) ∙ c.if-not-may_place.false) ∙
    ap (λ x. after (done w.next ∷ []) (filled (counted w) x)) new in
    let l = ap (λ p. length p.1) (said k) ∙ after_one (done w.next) (filled (counted w) (order_of o)) in
    record {
      says = said;
      filling = record { kinds = k; turn = subst (Turn z (counted w)) new t };
      number = t.next;
      room = omega (arith, c.requires.room k);
    }

pub push_reserved-requires-2 : goal.push_reserved-requires-2
push_reserved-requires-2 c = omega (arith, (is_taken (goal.at.push_reserved-requires-2 c).Else-not-may_place).room)

pub overflow_add-self : goal.overflow_add-self
overflow_add-self c =
    let t = is_taken (goal.at.overflow_add-self c).Else-not-may_place in
    omega (arith, t.number, ap (λ v. v.next) c.may_place.ensures.same.after)

pub fill-requires : goal.fill-requires
fill-requires c =
    let t = is_taken (goal.at.fill-requires c).Else-not-may_place in
    let e = counted_is c.may_place.new.self (world_of c.args.self.now.market) c.may_place.ensures.same.after in
    record {
      filling = rw (e, c.may_place.ensures.same.limits) t.filling;
      room = rw e (omega (arith, t.room, c.push_reserved-2.ensures.len, c.push_reserved-2.ensures.capacity));
    }

pub returns : goal.returns
returns c =
    let t = is_taken (goal.at.returns c).Else-not-may_place in
    let w = world_of c.args.self.now.market in
    let rs = map report_of (vec_items c.args.self.now.reports) in
    let e = counted_is c.may_place.new.self w c.may_place.ensures.same.after in
    let n = ap (λ v. v.next) c.may_place.ensures.same.after in
    let p = rw n at (one_more _ _ _ c.push_reserved-2.ensures.items) in
    λ k. record {
      after = c.fill.ensures.after ∙ rw (p, e, t.says k)
          (sym (after_more rs (done w.next) (filled (counted w) (order_of c.args.order))));
      limits = c.fill.ensures.limits ∙ c.may_place.ensures.same.limits;
      reports = c.fill.ensures.reports ∙ c.push_reserved-2.ensures.capacity;
    }
