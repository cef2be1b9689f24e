use Rattle.venue.proofs.Answered.{is_refused}
use Rattle.venue.proofs.laws_of_members.refusals_change_nothing.Goals as goal

pub returns : goal.returns
returns c = is_refused
