use Rattle.venue.proofs.Needed.{is_reached}
use Rattle.venue.proofs.laws_of_days.need_is_reached.Goals as goal

pub returns : goal.returns
returns c = is_reached
