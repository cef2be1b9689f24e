use Rattle.std.proofs.Common.{◌≡◌, ◌+◌, ◌-◌, ◌≤◌, map, length, take}
use Rattle.wire.specs.Means.{report_of}
use Rattle.wire.specs.Reports.{after, reads_reports, reads_row}
use Rattle.wire.proofs.report_rows.read_rows.Given as goal

-- what is read so far, with what is left to read, is the whole
abbrev pub invariant-loop : goal.invariant-loop
invariant-loop l = record {
  whole : after (map report_of l.into.items) l.size (reads_row (l.end - l.counter) l.bytes (l.at + l.size)) ≡
      after (map report_of l.initial.into.items) 0 (reads_reports l.bytes l.at);
  inside : l.at + l.size ≤ length l.bytes;
  kept : take (length l.initial.into.items) l.into.items ≡ l.initial.into.items;
}
