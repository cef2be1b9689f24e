-- A message's reports, each from the code's own, in one row of bytes.
use Rattle.std.proofs.Common.{◌≡◌, List, ◌++◌, map, length}
use Rattle.std.proofs.lemmas.List.{length-map}
use Rattle.std.proofs.lemmas.List.Folds.{flat_map-map}
use Rattle.std.specs.List.{flat_map}
use Rattle.wire.specs.Means.{report_of}
use Rattle.wire.specs.Number.{four_of}
use Rattle.wire.specs.Reports.{report_bytes, reports_bytes}
use Rattle.wire.specs.declared.report.Report.{Report}

pub all_reports : (rs : List Report) → reports_bytes (map report_of rs) ≡ four_of (length rs) ++ flat_map (λ r. report_bytes (report_of r)) rs
unfolding reports_bytes
all_reports rs = rw (length-map, flat_map-map)
