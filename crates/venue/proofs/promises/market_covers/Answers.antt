use Rattle.venue.proofs.Runs.{is_covered}
use Rattle.venue.proofs.promises.market_covers.Goals as goal

pub returns : goal.returns
returns c = is_covered
