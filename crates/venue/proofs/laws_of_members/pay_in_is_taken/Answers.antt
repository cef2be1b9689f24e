use Rattle.venue.proofs.Paying.{is_in_taken}
use Rattle.venue.proofs.laws_of_members.pay_in_is_taken.Goals as goal

pub returns : goal.returns
returns c = is_in_taken
