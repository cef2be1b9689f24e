-- What is written is read, and only that: the statements.
use Rattle.std.specs.Prelude.{◌≡◌, ℕ, ◌^◌, ◌<◌, List, ◌++◌, length, take, drop, Some}
use Rattle.std.specs.List.{AllByRecursion}
use Rattle.venue.specs.World as world
use Rattle.wire.specs.Messages.{reads, writes, Fits}
use Rattle.wire.specs.Reports.{reads_report, reads_reports, report_bytes, ReportFits, reports_bytes}

-- every message that fits is read where its bytes stand, whatever stands before and behind
abbrev pub MessageBack : Type 0
MessageBack =
    (before rest : List ℕ) (n : ℕ) (m : world.Message) → Fits n m →
    reads (before ++ (writes m ++ rest)) (length before) n ≡ Some (m, length (writes m))

-- bytes that are read as a message are the bytes that writing it gives, and the message fits
abbrev pub MessageOnly : Type 0
MessageOnly =
    (bs : List ℕ) (i n : ℕ) (m : world.Message) (k : ℕ) → AllByRecursion (λ b. b < 256) bs →
    reads bs i n ≡ Some (m, k) → (take k (drop i bs) ≡ writes m) × Fits n m

-- the same of one report
abbrev pub ReportBack : Type 0
ReportBack =
    (before rest : List ℕ) (r : world.Report) → ReportFits r →
    reads_report (before ++ (report_bytes r ++ rest)) (length before) ≡ Some (r, length (report_bytes r))

abbrev pub ReportOnly : Type 0
ReportOnly =
    (bs : List ℕ) (i : ℕ) (r : world.Report) (k : ℕ) → AllByRecursion (λ b. b < 256) bs →
    reads_report bs i ≡ Some (r, k) → (take k (drop i bs) ≡ report_bytes r) × ReportFits r

-- and of a message's reports together, if four bytes can count them
abbrev pub ReportsBack : Type 0
ReportsBack =
    (before rest : List ℕ) (rs : List world.Report) → AllByRecursion ReportFits rs → length rs < 2 ^ 32 →
    reads_reports (before ++ (reports_bytes rs ++ rest)) (length before) ≡ Some (rs, length (reports_bytes rs))

abbrev pub ReportsOnly : Type 0
ReportsOnly =
    (bs : List ℕ) (i : ℕ) (rs : List world.Report) (k : ℕ) → AllByRecursion (λ b. b < 256) bs →
    reads_reports bs i ≡ Some (rs, k) → (take k (drop i bs) ≡ reports_bytes rs) × AllByRecursion ReportFits rs × (length rs < 2 ^ 32)
