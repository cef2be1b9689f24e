use Rattle.venue.proofs.Settling.{is_end_taken}
use Rattle.venue.proofs.laws_of_days.end_of_day_is_taken.Goals as goal

pub returns : goal.returns
returns c = is_end_taken
