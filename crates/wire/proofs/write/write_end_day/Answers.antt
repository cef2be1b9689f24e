use Rattle.wire.proofs.Columns.{evening_written}
use Rattle.wire.proofs.write.write_end_day.Goals as goal

pub returns : goal.returns
returns c = rw evening_written c.put.ensures
