use Rattle.std.proofs.Common.{map, vec_items, refl, ap, ◌∙◌}
use Rattle.std.proofs.lemmas.List.{map_push}
use Rattle.venue.specs.World.{with_orders}
use Rattle.reference.specs.Means.{world_of, order_of}
use Rattle.reference.proofs.market.Market.stand.Goals as goal

pub returns : goal.returns
unfolding with_orders
returns c =
    record {
      after =
          ap (with_orders (world_of c.args.self.now))
          (ap (map order_of) c.push_reserved.ensures.items ∙ map_push order_of (vec_items c.args.self.now.orders) c.args.o);
      limits = refl;
    }
