use Rattle.venue.proofs.Stated.{is_turns}
use Rattle.venue.proofs.trading.turns_hold.Goals as goal

pub returns : goal.returns
returns c = is_turns
