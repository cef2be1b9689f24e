use Rattle.venue.proofs.Priorities.{is_oldest}
use Rattle.venue.proofs.laws_of_orders.oldest_order_comes_first.Goals as goal

pub returns : goal.returns
returns c = is_oldest
