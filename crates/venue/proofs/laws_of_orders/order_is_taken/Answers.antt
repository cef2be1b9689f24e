use Rattle.venue.proofs.Placings.{is_place_taken}
use Rattle.venue.proofs.laws_of_orders.order_is_taken.Goals as goal

pub returns : goal.returns
returns c = is_place_taken
