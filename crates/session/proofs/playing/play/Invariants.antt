-- The loop of `play`: each message is at least one byte, so fewer are left after it.
use Rattle.std.proofs.Common.{◌-◌, length}
use Rattle.session.proofs.playing.play.Given as goal

abbrev pub decreases-loop-at : goal.decreases-loop-at
decreases-loop-at g l = length l.messages - l.at
