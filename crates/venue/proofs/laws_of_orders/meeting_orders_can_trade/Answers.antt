use Rattle.venue.proofs.Priorities.{is_can}
use Rattle.venue.proofs.laws_of_orders.meeting_orders_can_trade.Goals as goal

pub returns : goal.returns
returns c = is_can
