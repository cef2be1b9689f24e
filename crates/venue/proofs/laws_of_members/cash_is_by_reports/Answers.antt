use Rattle.venue.proofs.Cashflow.{is_by_reports}
use Rattle.venue.proofs.laws_of_members.cash_is_by_reports.Goals as goal

pub returns : goal.returns
returns c = is_by_reports
