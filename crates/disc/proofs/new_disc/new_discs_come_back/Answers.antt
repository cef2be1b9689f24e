use Rattle.disc.proofs.Fresh.{comes_back}
use Rattle.disc.proofs.new_disc.new_discs_come_back.Goals as goal

pub returns : goal.returns
returns c = comes_back
