use Rattle.venue.proofs.Stated.{is_says}
use Rattle.venue.proofs.soundness.messages_keep_sound.Goals as goal

pub returns : goal.returns
returns c = is_says
