use Rattle.std.proofs.Common.{◌≡◌, suc, ◌+◌, ◌-◌, ◌<◌, ◌≤◌, [], ◌∷◌, ◌++◌, map, length, get_or, Some, None, vec_items, vec_len, vec_capacity, sym, ap, ◌∙◌, subst, arith, rules}
use Rattle.std.proofs.lemmas.List.{length-map}
use Rattle.std.proofs.lemmas.Bool.Decides.{nat_tests}
use Rattle.venue.specs.World as world
use Rattle.venue.specs.World.{best, no_order, less_left, lesser, with_orders}
use Rattle.wire.specs.Means.{report_of}
use Rattle.reference.specs.Means.{order_of, world_of}
use Rattle.reference.specs.Conditions.{Filling}
use Rattle.reference.specs.Parts.{after, filled, first_of}
use Rattle.reference.proofs.Fills.{Ready, ready, fills_on, filled_done, filled_stands, filled_trades, after_none, after_more, after_one, lesser_min}
use Rattle.reference.proofs.Orders.{IsBest, best_none, best_takes, best_keeps, best_nowhere, best_there}
use Rattle.reference.proofs.Places.{read_map}
use Rattle.reference.proofs.Reported.{one_more}
use Rattle.reference.proofs.market.Told.fill.Goals as goal
use Rattle.reference.proofs.market.Told.fill.Goals.{After-comes_before, After-index, After-trade}

pub loop-i-init : goal.loop-i-init
loop-i-init c = best_none _ _ c.len-i.result (simp length-map (search rules))

-- one place further to the front
record Front (c : goal.After-comes_before) : Type 0 where
  here : c.loop-i.i - 1 < length (world_of c.filling.self.market).orders
  behind : IsBest (order_of c.filling.o) (world_of c.filling.self.market).orders (suc (c.loop-i.i - 1)) c.loop-i.best
  test : first_of (order_of c.filling.o) (world_of c.filling.self.market).orders (c.loop-i.i - 1) c.loop-i.best ≡ c.comes_before.result

front : (c : goal.After-comes_before) → Front c
front c =
    let e : c.loop-i.i ≡ suc (c.loop-i.i - 1) = omega arith in
    record {
      here = simp length-map (omega (arith, c.loop-i.auto.i, c.len-i.ensures, c.filling.self.market.orders.ok.0));
      behind = rw e at c.loop-i.invariant;
      test = sym (c.comes_before.ensures ∙
          ap (λ os. first_of (order_of c.filling.o) (map order_of os) (c.loop-i.i - 1) c.loop-i.best) c.deref.ensures.value);
    }

pub loop-i-preserved-then-comes_before : goal.loop-i-preserved-then-comes_before
loop-i-preserved-then-comes_before c =
    let f = front (goal.at.loop-i-preserved-then-comes_before c).After-comes_before in
    best_takes _ _ _ _ f.here f.behind (f.test ∙ c.if-comes_before.true)

pub loop-i-preserved : goal.loop-i-preserved
loop-i-preserved c =
    let f = front (goal.at.loop-i-preserved c).After-comes_before in
    best_keeps _ _ _ _ f.here f.behind (f.test ∙ c.if-comes_before.false)

-- the order that is met: the best, and all that a trade with it asks for
record Met (c : goal.After-index) : Type 0 where
  best_is : c.in-Some.at ≡ best (order_of c.filling.o) (world_of c.filling.self.market).orders
  there : c.in-Some.at < length (world_of c.filling.self.market).orders
  is : order_of c.index.result.now ≡ get_or (world_of c.filling.self.market).orders c.in-Some.at no_order
  is_ready : Ready (world_of c.filling.self.market) (order_of c.filling.o) (order_of c.index.result.now)

met : (c : goal.After-index) → Met c
met c =
    let w = world_of c.filling.self.market in
    let z : c.loop-i.i ≡ 0 = omega arith in
    let b : IsBest (order_of c.filling.o) (world_of c.filling.self.market).orders 0 (Some c.in-Some.at) =
    rw (z, c.in-Some.is) at c.loop-i.invariant in
    let h : c.in-Some.at < length (vec_items c.filling.self.market.orders) = simp length-map at b.inside in
    let r = sym (read_map order_of (vec_items c.filling.self.market.orders) c.in-Some.at c.index.result.now no_order h c.index.ensures) in
    record {
      best_is = best_there _ _ _ b;
      there = b.inside;
      is = r;
      is_ready = ready c.filling.self.market.limits w (order_of c.filling.o) (order_of c.index.result.now) c.in-Some.at
          c.filling.invariant.1 b.inside r;
    }

-- how much is traded
part : (c : goal.After-trade) → c.min-x.result ≡ lesser c.filling.o.left c.index.result.now.left
part c = c.min-x.ensures ∙ lesser_min _ _

pub trade-requires-clause-older : goal.trade-requires-clause-older
trade-requires-clause-older c =
    (met (goal.at.trade-requires-clause-older c).After-index).is_ready.other

pub trade-requires-clause-price : goal.trade-requires-clause-price
trade-requires-clause-price c =
    (met (goal.at.trade-requires-clause-price c).After-index).is_ready.price

pub trade-requires-clause-roomy : goal.trade-requires-clause-roomy
trade-requires-clause-roomy c =
    (met (goal.at.trade-requires-clause-roomy c).After-index).is_ready.roomy

-- the turn: what was reported and what is to come, before and after
record Turned (c : goal.After-trade) : Type 0 where
  is : filled (world_of c.filling.self.market) (order_of c.filling.o) ≡
      after (world.trade c.filling.o.number c.index.result.now.number c.filling.o.item c.index.result.now.price c.min-x.result
      ∷ [])
      (filled (world_of c.trade.new.self) (less_left (order_of c.filling.o) c.min-x.result))
  goes : Filling c.trade.new.self.limits (world_of c.trade.new.self) (less_left (order_of c.filling.o) c.min-x.result)
  less : (1 ≤ c.min-x.result) × (c.min-x.result ≤ c.filling.o.left)
  room : vec_len c.filling.self.reports + suc (length (filled (world_of c.trade.new.self)
      (less_left (order_of c.filling.o) c.min-x.result)).1) ≤ vec_capacity c.filling.self.reports

turned : (c : goal.After-trade) → Turned c
turned c =
    let m = met (goal.at.After-trade c).After-index in
    let w = world_of c.filling.self.market in
    let o = order_of c.filling.o in
    let r = order_of c.index.result.now in
    let x = part c in
    let t : filled (world_of c.filling.self.market) (order_of c.filling.o) ≡
    after (world.trade c.filling.o.number c.index.result.now.number c.filling.o.item c.index.result.now.price c.min-x.result ∷ [])
    (filled (world_of c.trade.new.self) (less_left (order_of c.filling.o) c.min-x.result)) =
    rw c.trade.ensures.after (filled_trades w o r c.in-Some.at c.min-x.result c.filling-test.true m.best_is m.there m.is x) in
    let e = ap (λ p. length p.1) t in
    let n = after_one (world.trade c.filling.o.number c.index.result.now.number c.filling.o.item c.index.result.now.price
    c.min-x.result)
    (filled (world_of c.trade.new.self) (less_left o c.min-x.result)) in
    let k = c.filling.invariant.2 in
    record {
      is = t;
      room = omega arith;
      goes = subst (λ z. Filling z (world_of c.trade.new.self) (less_left o c.min-x.result)) (sym c.trade.ensures.limits)
          (fills_on c.filling.self.market.limits w (world_of c.trade.new.self) o r c.in-Some.at c.min-x.result
          c.filling.invariant.1 m.best_is m.there m.is x c.trade.ensures.after);
      less = (grind (arith, nat_tests, m.is_ready.some), grind (arith, nat_tests));
    }

pub push_reserved-requires : goal.push_reserved-requires
push_reserved-requires c = omega (arith, (turned (goal.at.push_reserved-requires c).After-trade).room)

pub filling-smaller : goal.filling-smaller
filling-smaller c = let t = (turned (goal.at.filling-smaller c).After-trade).less in omega (arith, t.0, t.1)

pub filling-preserved : goal.filling-preserved
unfolding less_left
filling-preserved c =
    let t = turned (goal.at.filling-preserved c).After-trade in
    let p = one_more _ _ _ c.push_reserved.ensures.items in (
      rw (p, ← after_more, ← t.is) c.filling.invariant.0,
      t.goes,
      omega (arith, t.room, c.push_reserved.ensures.len, c.push_reserved.ensures.capacity),
      c.trade.ensures.limits ∙ c.filling.invariant.3,
      c.push_reserved.ensures.capacity ∙ c.filling.invariant.4,
    )

pub returns-after-filling : goal.returns-after-filling
returns-after-filling c =
    let d = filled_done (world_of c.filling.self.market) (order_of c.filling.o) c.filling-test.false in
    record {
      after = sym (after_none (map report_of (vec_items c.filling.self.reports)) (world_of c.filling.self.market)) ∙ (rw d at c.filling.invariant.0);
      limits = c.filling.invariant.3;
      reports = c.filling.invariant.4;
    }

pub returns-in_default : goal.returns-in_default
returns-in_default c =
    let w = world_of c.filling.self.market in
    let o = order_of c.filling.o in
    let z : c.loop-i.i ≡ 0 = omega arith in
    let b : IsBest (order_of c.filling.o) (world_of c.filling.self.market).orders 0 None = rw (z, c.in_default.is) at c.loop-i.invariant in
    let f = filled_stands w o c.filling-test.true (best_nowhere _ _ b) in
    record {
      after = rw c.stand.ensures.after (sym (after_none (map report_of (vec_items c.filling.self.reports)) (with_orders w (w.orders ++ o ∷ [])))
          ∙ (rw f at c.filling.invariant.0));
      limits = c.stand.ensures.limits ∙ c.filling.invariant.3;
      reports = c.filling.invariant.4;
    }
