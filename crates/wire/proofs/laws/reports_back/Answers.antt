use Rattle.wire.proofs.ReportRows.{reports_back}
use Rattle.wire.proofs.laws.reports_back.Goals as goal

pub returns : goal.returns
returns c = reports_back
