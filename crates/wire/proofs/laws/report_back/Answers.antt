use Rattle.wire.proofs.ReportRows.{report_back}
use Rattle.wire.proofs.laws.report_back.Goals as goal

pub returns : goal.returns
returns c = report_back
