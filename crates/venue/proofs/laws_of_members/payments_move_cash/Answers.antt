use Rattle.venue.proofs.Paying.{is_moving}
use Rattle.venue.proofs.laws_of_members.payments_move_cash.Goals as goal

pub returns : goal.returns
returns c = is_moving
