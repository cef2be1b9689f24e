use Rattle.venue.proofs.Stated.{is_paid}
use Rattle.venue.proofs.trading.trade_is_paid_for.Goals as goal

pub returns : goal.returns
returns c = is_paid
