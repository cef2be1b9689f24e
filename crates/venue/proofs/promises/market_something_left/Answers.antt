use Rattle.venue.proofs.Runs.{is_something_left}
use Rattle.venue.proofs.promises.market_something_left.Goals as goal

pub returns : goal.returns
returns c = is_something_left
