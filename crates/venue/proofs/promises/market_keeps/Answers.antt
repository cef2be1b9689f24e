use Rattle.venue.proofs.Runs.{is_kept}
use Rattle.venue.proofs.promises.market_keeps.Goals as goal

pub returns : goal.returns
returns c = is_kept
