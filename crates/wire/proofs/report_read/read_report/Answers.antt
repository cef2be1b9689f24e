-- Past the end no report is whole; what is read is what was written.
use Rattle.std.proofs.Common.{ℕ, List, Some, None, Option, arith}
use Rattle.std.proofs.lemmas.List.{get_or_past}
use Rattle.std.proofs.lemmas.Bool.Decides.{nat_tests}
use Rattle.wire.specs.Means.{report_of}
use Rattle.wire.specs.Reports.{AsReported, ReadReport, reads_report}
use Rattle.wire.specs.declared.report.Report.{Report}
use Rattle.wire.specs.Field.{Bytes}
use Rattle.wire.proofs.ReportOnly.{report_only}
use Rattle.wire.proofs.report_read.read_report.Goals as goal

as_reported : (bs : List ℕ) (i : ℕ) (r : Option (Report × ℕ)) → Bytes bs → ReadReport bs i r → AsReported bs i r
as_reported bs i (Some p) b h = report_only bs i (report_of p.0) p.1 b h.0
as_reported bs i None b h = tt

pub returns-then-at-bytes : goal.returns-then-at-bytes
unfolding reads_report
returns-then-at-bytes c =
    let e = get_or_past c.args.bytes.now c.args.at 0 (omega arith) in
    record { found = grind (arith, nat_tests); written = tt }

pub returns : goal.returns
returns c =
    record {
      found = c.read_kind.ensures;
      written = as_reported c.args.bytes.now c.args.at c.read_kind.result (λ k. (c.type_inv.bytes k).fits) c.read_kind.ensures;
    }
