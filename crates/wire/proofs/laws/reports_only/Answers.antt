use Rattle.wire.proofs.ReportRows.{reports_only_that}
use Rattle.wire.proofs.laws.reports_only.Goals as goal

pub returns : goal.returns
returns c = reports_only_that
