use Rattle.venue.proofs.Needed.{is_enough}
use Rattle.venue.proofs.laws_of_days.need_is_enough.Goals as goal

pub returns : goal.returns
returns c = is_enough
