use Rattle.venue.proofs.Settling.{is_settled}
use Rattle.venue.proofs.laws_of_days.end_of_day_settles.Goals as goal

pub returns : goal.returns
returns c = is_settled
