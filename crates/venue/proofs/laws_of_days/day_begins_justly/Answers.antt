use Rattle.venue.proofs.Justly.{is_begun}
use Rattle.venue.proofs.laws_of_days.day_begins_justly.Goals as goal

pub returns : goal.returns
returns c = is_begun
