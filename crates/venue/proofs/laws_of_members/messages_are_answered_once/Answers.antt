use Rattle.venue.proofs.Answered.{is_answered}
use Rattle.venue.proofs.laws_of_members.messages_are_answered_once.Goals as goal

pub returns : goal.returns
returns c = is_answered
