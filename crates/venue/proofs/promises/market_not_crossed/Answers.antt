use Rattle.venue.proofs.Runs.{is_not_crossed}
use Rattle.venue.proofs.promises.market_not_crossed.Goals as goal

pub returns : goal.returns
returns c = is_not_crossed
