-- What this crate's errors say, in words. Assumes nothing: these are definitions.
use Rattle.std.specs.Prelude.{ℕ, List, ◌++◌, codes, decimal}
use Rattle.wire.specs.declared.report_rows.Unread.{Unread}
use Rattle.wire.specs.declared.report_rows.Unread.TheVariants as unread
use Rattle.wire.specs.declared.unknown.UnknownByte.{UnknownByte}
use Rattle.wire.specs.declared.unwritten.Unwritten.{Unwritten}
use Rattle.wire.specs.declared.unwritten.Unwritten.TheVariants as unwritten

-- why bytes are not written
abbrev pub unwritten_text : Unwritten → List ℕ
unwritten_text unwritten.Memory = codes "there is no memory for the bytes"
unwritten_text unwritten.Prices = codes "the prices of an end of day are not in the bytes that it was read from"
unwritten_text unwritten.Many = codes "there are more reports than four bytes can count"

-- why reports are not read
abbrev pub unread_text : Unread → List ℕ
unread_text unread.Memory = codes "there is no memory for the reports"
unread_text unread.NoReports = codes "the bytes are no reports with their number in front"

-- a byte that is no kind's and no side's
abbrev pub unknown_text : UnknownByte → List ℕ
unknown_text b = codes "the byte " ++ (decimal b.0 ++ codes " stands for nothing here")
