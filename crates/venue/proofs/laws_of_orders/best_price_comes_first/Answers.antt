use Rattle.venue.proofs.Priorities.{is_first_for}
use Rattle.venue.proofs.laws_of_orders.best_price_comes_first.Goals as goal

pub returns : goal.returns
returns c = is_first_for
