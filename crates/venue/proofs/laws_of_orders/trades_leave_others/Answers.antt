use Rattle.venue.proofs.Leavings.{is_left}
use Rattle.venue.proofs.laws_of_orders.trades_leave_others.Goals as goal

pub returns : goal.returns
returns c = is_left
