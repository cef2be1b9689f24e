-- Kinds of messages, kinds of reports and sides, each as the number that stands for it in a byte. Assumes nothing: these are definitions.
use Rattle.std.specs.Prelude.{◌≡◌, ℕ, ◌<◌, false, Result, MatchResult}
use Rattle.wire.specs.Means.{kind_there, side_of}
use Rattle.wire.specs.Messages.{side_byte}
use Rattle.wire.specs.declared.kind.Kind.{Kind}
use Rattle.wire.specs.declared.kind.Kind.TheVariants.{PayIn, PayOut, Place, Cancel, EndDay, BeginDay}
use Rattle.wire.specs.declared.report_kind.ReportKind.{ReportKind}
use Rattle.wire.specs.declared.report_kind.ReportKind.TheVariants.{Taken, Refused, Trade, Torn}
use Rattle.wire.specs.declared.side.Side.{Side}
use Rattle.wire.specs.declared.unknown.UnknownByte.{UnknownByte}

-- the number of a kind of messages
abbrev pub kind_number : Kind → ℕ
kind_number PayIn = 1
kind_number PayOut = 2
kind_number Place = 3
kind_number Cancel = 4
kind_number EndDay = 5
kind_number BeginDay = 6

-- the number of a kind of reports
abbrev pub report_kind_number : ReportKind → ℕ
report_kind_number Taken = 0
report_kind_number Refused = 1
report_kind_number Trade = 2
report_kind_number Torn = 3

-- the number of a side
abbrev pub side_number : Side → ℕ
side_number s = side_byte (side_of s)

-- the result is the kind with this number, or an error with a number that no kind has
abbrev pub IsKindOf : ℕ → Result Kind UnknownByte → Type 0
IsKindOf b r = MatchResult r (λ k. kind_number k ≡ b) (λ e. (e.0 ≡ b) × (kind_there b ≡ false))

-- the same of kinds of reports, the last of which is 3
abbrev pub IsReportKindOf : ℕ → Result ReportKind UnknownByte → Type 0
IsReportKindOf b r = MatchResult r (λ k. report_kind_number k ≡ b) (λ e. (e.0 ≡ b) × (3 < b))

-- the same of sides, the last of which is 1
abbrev pub IsSideOf : ℕ → Result Side UnknownByte → Type 0
IsSideOf b r = MatchResult r (λ s. side_number s ≡ b) (λ e. (e.0 ≡ b) × (1 < b))
