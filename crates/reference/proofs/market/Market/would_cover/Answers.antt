use Rattle.std.proofs.Common.{◌≡◌, ◌-◌, ◌<◌, map, length, take, vec_items, vec_len, sym, ap, ◌∙◌, subst, arith}
use Rattle.std.proofs.lemmas.List.{length-map, take-map}
use Rattle.venue.specs.World.{with_orders}
use Rattle.reference.specs.Means.{world_of, order_of}
use Rattle.reference.proofs.Stood.{stood_fit, stood_covered, stood_gone}
use Rattle.reference.proofs.market.Market.would_cover.Goals as goal
use Rattle.reference.proofs.market.Market.would_cover.Goals.{After-stand}

pub covers-covered-requires : goal.covers-covered-requires
unfolding with_orders
covers-covered-requires c =
    record {
      here = subst (λ v. c.args.order.account < length v.accounts) (sym c.stand.ensures.after) c.requires.here;
      fit = stood_fit (world_of c.args.self.now) (world_of c.stand.new.self) (order_of c.args.order) c.stand.ensures.after
          (omega (arith, c.requires.room, c.args.self.now.limits.few)) c.requires.fit;
    }

pub returns : goal.returns
unfolding with_orders
returns c =
    let w = world_of c.args.self.now in
    let v = world_of c.stand.new.self in
    let o = order_of c.args.order in
    let n : vec_len c.stand.new.self.orders ≡ length v.orders = simp length-map c.stand.new.self.orders.ok.0 in
    let p : map order_of (vec_items c.pop.new.self) ≡ take (length v.orders - 1) v.orders =
    ap (map order_of) c.pop.ensures.rest ∙ rw (← n) (simp take-map) in
    record {
      value = c.covers-covered.ensures ∙ stood_covered w v o c.stand.ensures.after c.args.order.account;
      same = record {
        after = stood_gone w v o c.stand.ensures.after (with_orders v (map order_of (vec_items c.pop.new.self))) (ap (with_orders v) p);
        limits = c.stand.ensures.limits;
      };
    }
