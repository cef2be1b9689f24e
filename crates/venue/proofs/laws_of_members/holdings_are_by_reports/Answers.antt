use Rattle.venue.proofs.Tallies.{is_held_by_reports}
use Rattle.venue.proofs.laws_of_members.holdings_are_by_reports.Goals as goal

pub returns : goal.returns
returns c = is_held_by_reports
