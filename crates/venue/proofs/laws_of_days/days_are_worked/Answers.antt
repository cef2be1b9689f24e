use Rattle.venue.proofs.Worked.{is_worked}
use Rattle.venue.proofs.laws_of_days.days_are_worked.Goals as goal

pub returns : goal.returns
returns c = is_worked
