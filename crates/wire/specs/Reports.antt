-- Reports in bytes: the kind, then its numbers; and a message's reports together, behind their number. Assumes nothing: these are definitions.
use Rattle.std.specs.Prelude.{◌≡◌, ℕ, zero, suc, ◌+◌, ◌^◌, ◌<◌, ◌≤◌, List, [], ◌∷◌, ◌++◌, map, length, take, drop, ℤ, Some, None, Ok, Err, Option, Result, FitsSigned, ◌==◌, nat_le, slice_index}
use Rattle.std.specs.Int.{w64}
use Rattle.std.specs.Int.{cast_signed, cast_unsigned}
use Rattle.std.specs.List.{flat_map}
use Rattle.venue.specs.World as world
use Rattle.venue.specs.World.{pick}
use Rattle.wire.specs.Number.{two, four, eight, two_of, four_of, eight_of}
use Rattle.wire.specs.Means.{report_of}
use Rattle.wire.specs.Messages.{whole}
use Rattle.wire.specs.declared.report.Report.{Report}
use Rattle.wire.specs.declared.report_rows.Unread.{Unread}
use Rattle.wire.specs.declared.report_rows.Unread.TheVariants.{Memory, NoReports}

-- a number with its sign in eight bytes, as two's complement
abbrev pub signed : List ℕ → ℕ → ℤ
signed bs i = cast_signed w64 (eight bs i)

unfoldable pub signed_of : ℤ → List ℕ
signed_of z = eight_of (cast_unsigned w64 z)

-- the report of kind h that the bytes hold at place i, and its length
abbrev pub reads_report_kind : ℕ → List ℕ → ℕ → Option (world.Report × ℕ)
reads_report_kind h bs i =
    pick (h == 0) (whole bs i 9 (world.done (eight bs (i + 1))))
    (pick (h == 1) (whole bs i 1 world.no)
    (pick (h == 2) (whole bs i 27 (world.trade (eight bs (i + 1)) (eight bs (i + 9)) (two bs (i + 17)) (four bs (i + 19)) (four bs (i + 23))))
    (pick (h == 3) (whole bs i 15 (world.torn (two bs (i + 1)) (two bs (i + 3)) (two bs (i + 5)) (signed bs (i + 7))))
    None)))

-- the report that the bytes hold at place i, by the kind that stands there
unfoldable pub reads_report : List ℕ → ℕ → Option (world.Report × ℕ)
reads_report bs i = reads_report_kind (slice_index bs i) bs i

-- the bytes of a report
unfoldable pub report_bytes : world.Report → List ℕ
report_bytes (world.done n) = 0 ∷ eight_of n
report_bytes world.no = 1 ∷ []
report_bytes (world.trade n m k p x) = 2 ∷ (eight_of n ++ (eight_of m ++ (two_of k ++ (four_of p ++ four_of x))))
report_bytes (world.torn a b k z) = 3 ∷ (two_of a ++ (two_of b ++ (two_of k ++ signed_of z)))

-- a report that has bytes; a holding is within 2^63
unfoldable pub ReportFits : world.Report → Type 0
ReportFits (world.done n) = n < 2 ^ 64
ReportFits world.no = Unit {0}
ReportFits (world.trade n m k p x) = (n < 2 ^ 64) × (m < 2 ^ 64) × (k < 2 ^ 16) × (p < 2 ^ 32) × (x < 2 ^ 32)
ReportFits (world.torn a b k z) = (a < 2 ^ 16) × (b < 2 ^ 16) × (k < 2 ^ 16) × FitsSigned w64 z

-- what was read, with reports rs of k bytes in front of it
abbrev pub after : List world.Report → ℕ → Option (List world.Report × ℕ) → Option (List world.Report × ℕ)
after rs k None = None
after rs k (Some q) = Some (rs ++ q.0, k + q.1)

abbrev pub go_on : Option (world.Report × ℕ) → (ℕ → Option (List world.Report × ℕ)) → Option (List world.Report × ℕ)
go_on None f = None
go_on (Some p) f = after (p.0 ∷ []) p.1 (f p.1)

-- n reports one behind the other from place i on, and their length
unfoldable pub reads_row : ℕ → List ℕ → ℕ → Option (List world.Report × ℕ)
reads_row zero bs i = Some ([], 0)
reads_row (suc n) bs i = go_on (reads_report bs i) (λ k. reads_row n bs (i + k))

-- a message's reports together: their number in four bytes, then each
unfoldable pub reads_reports : List ℕ → ℕ → Option (List world.Report × ℕ)
reads_reports bs i = pick (nat_le (i + 4) (length bs)) (after [] 4 (reads_row (four bs i) bs (i + 4))) None

unfoldable pub reports_bytes : List world.Report → List ℕ
reports_bytes rs = four_of (length rs) ++ flat_map report_bytes rs

-- what a reader at place i gives: the report that lies there and its length, or none where there is none
abbrev pub ReadReport : List ℕ → ℕ → Option (Report × ℕ) → Type 0
ReadReport bs i (Some p) = (reads_report bs i ≡ Some (report_of p.0, p.1)) × (1 ≤ p.1) × (i + p.1 ≤ length bs)
ReadReport bs i None = reads_report bs i ≡ None

-- and the bytes there are those that writing the report gives, which fits
abbrev pub AsReported : List ℕ → ℕ → Option (Report × ℕ) → Type 0
AsReported bs i (Some p) = (take p.1 (drop i bs) ≡ report_bytes (report_of p.0)) × ReportFits (report_of p.0)
AsReported bs i None = Unit {0}

-- what a reader of a message's reports leaves in the list that it was given: the reports behind those before, or just those
abbrev pub ReadReports : List ℕ → ℕ → List Report → List Report → Result ℕ Unread → Type 0
ReadReports bs i before rs (Ok k) = (after (map report_of before) 0 (reads_reports bs i) ≡ Some (map report_of rs, k)) × (i + k ≤ length bs)
ReadReports bs i before rs (Err Memory) = rs ≡ before
ReadReports bs i before rs (Err NoReports) = (rs ≡ before) × (reads_reports bs i ≡ None)

-- the same of one that leaves behind those before what it had read when it failed
abbrev pub ReadSome : List ℕ → ℕ → List Report → List Report → Result ℕ Unread → Type 0
ReadSome bs i before rs (Ok k) = (after (map report_of before) 0 (reads_reports bs i) ≡ Some (map report_of rs, k)) × (i + k ≤ length bs)
ReadSome bs i before rs (Err Memory) = take (length before) rs ≡ before
ReadSome bs i before rs (Err NoReports) = (take (length before) rs ≡ before) × (reads_reports bs i ≡ None)
