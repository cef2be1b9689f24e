use Rattle.venue.proofs.Stated.{is_reports}
use Rattle.venue.proofs.ranges.reports_are_few.Goals as goal

pub returns : goal.returns
returns c = is_reports
