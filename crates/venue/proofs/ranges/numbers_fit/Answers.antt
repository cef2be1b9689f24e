use Rattle.venue.proofs.Stated.{is_ranges}
use Rattle.venue.proofs.ranges.numbers_fit.Goals as goal

pub returns : goal.returns
returns c = is_ranges
