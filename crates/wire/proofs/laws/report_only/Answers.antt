use Rattle.wire.proofs.ReportRows.{report_only_that}
use Rattle.wire.proofs.laws.report_only.Goals as goal

pub returns : goal.returns
returns c = report_only_that
