use Rattle.venue.proofs.Stated.{is_safe}
use Rattle.venue.proofs.soundness.sound_is_safe.Goals as goal

pub returns : goal.returns
returns c = is_safe
