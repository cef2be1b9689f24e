use Rattle.venue.proofs.Cancels.{is_cancel_taken}
use Rattle.venue.proofs.laws_of_orders.cancel_is_taken.Goals as goal

pub returns : goal.returns
returns c = is_cancel_taken
