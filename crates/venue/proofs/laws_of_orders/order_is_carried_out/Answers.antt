use Rattle.venue.proofs.Placings.{is_place_carried}
use Rattle.venue.proofs.laws_of_orders.order_is_carried_out.Goals as goal

pub returns : goal.returns
returns c = is_place_carried
