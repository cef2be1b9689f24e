use Rattle.wire.proofs.Only.{message_only}
use Rattle.wire.proofs.laws.message_only.Goals as goal

pub returns : goal.returns
returns c = message_only
