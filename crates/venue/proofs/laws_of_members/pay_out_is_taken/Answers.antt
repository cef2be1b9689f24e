use Rattle.venue.proofs.Paying.{is_out_taken}
use Rattle.venue.proofs.laws_of_members.pay_out_is_taken.Goals as goal

pub returns : goal.returns
returns c = is_out_taken
