use Rattle.venue.proofs.Stated.{is_sizes}
use Rattle.venue.proofs.ranges.sizes_stay.Goals as goal

pub returns : goal.returns
returns c = is_sizes
