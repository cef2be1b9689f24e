use Rattle.venue.proofs.Stated.{is_first}
use Rattle.venue.proofs.soundness.first_is_sound.Goals as goal

pub returns : goal.returns
returns c = is_first
