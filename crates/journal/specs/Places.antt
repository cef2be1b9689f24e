-- Where everything lies behind the first blocks of a disc: two areas, each a commit block, a checkpoint's body and a journal.
-- Assumes nothing: these are definitions.
use Rattle.std.specs.Prelude.{ℕ, ◌+◌, ◌≤◌, [], length, slice_index_or}
use Rattle.blocks.specs.Disc.{Disc, row}
use Rattle.journal.specs.Format.{Format}

-- how many blocks lie in front of the areas, in a body, and in a journal
pub record Lay : Type 0 where
  pub first : ℕ
  pub body : ℕ
  pub journal : ℕ

-- what a start begins with: the first market, which goes on in the journal of area 0; the checkpoint of area 0; or that of area 1
pub data Base : Type 0 where
  fresh : Base
  low : Base
  high : Base

abbrev pub area : Lay → ℕ
area l = 1 + l.body + l.journal

-- the commit block of the base's area, the first block of its body, and the first of its journal
abbrev pub flag_at : Lay → Base → ℕ
flag_at l fresh = l.first
flag_at l low = l.first
flag_at l high = l.first + area l

abbrev pub body_at : Lay → Base → ℕ
body_at l b = flag_at l b + 1

abbrev pub journal_at : Lay → Base → ℕ
journal_at l b = flag_at l b + 1 + l.body

-- the base after the next checkpoint
abbrev pub moved : Base → Base
moved fresh = high
moved low = high
moved high = low

-- both areas lie on a disc of n blocks
pub record Room (l : Lay) (n : ℕ) : Type 0 where
  pub some_first : 1 ≤ l.first
  pub some_journal : 1 ≤ l.journal
  pub enough : l.first + area l + area l ≤ n

module _ (c : Format) where
  -- how a disc is laid out, and its first blocks
  abbrev pub lay : Disc → Lay
  lay d =
      record {
        first = c.first_size (slice_index_or d 0 []);
        body = c.body_size (slice_index_or d 0 []);
        journal = c.journal_size (slice_index_or d 0 []) (length d);
      }

  abbrev pub first_blocks : Disc → Disc
  first_blocks d = row d 0 (lay d).first
