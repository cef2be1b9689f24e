use Rattle.wire.proofs.Back.{message_back}
use Rattle.wire.proofs.laws.message_back.Goals as goal

pub returns : goal.returns
returns c = message_back
