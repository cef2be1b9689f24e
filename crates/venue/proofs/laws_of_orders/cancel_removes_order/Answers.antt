use Rattle.venue.proofs.Cancels.{is_removed}
use Rattle.venue.proofs.laws_of_orders.cancel_removes_order.Goals as goal

pub returns : goal.returns
returns c = is_removed
