use Rattle.venue.proofs.Stated.{is_exact}
use Rattle.venue.proofs.soundness.test_is_exact.Goals as goal

pub returns : goal.returns
returns c = is_exact
