use Rattle.venue.proofs.Stated.{is_sums}
use Rattle.venue.proofs.ranges.sums_fit.Goals as goal

pub returns : goal.returns
returns c = is_sums
