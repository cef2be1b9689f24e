-- A market that is kept on a disc: how it starts, what it does with a message, and which blocks it then writes. Assumes nothing: these are definitions.
use Rattle.std.specs.Prelude.{ℕ, suc, ◌+◌, Bool, List, [], ◌∷◌, ◌++◌, length, nat_lt}
use Rattle.venue.specs.World.{Limits, Message, Report, World, no, pick, says, written}
use Rattle.blocks.specs.Disc.{Disc}
use Rattle.blocks.specs.Writes.{Write, listed}
use Rattle.journal.specs.Decode.{base_on, counted, decode, end_of, heard_of, world_on}
use Rattle.journal.specs.Format.{Format}
use Rattle.journal.specs.Places.{Base, Lay, body_at, first_blocks, flag_at, fresh, high, journal_at, lay, low, moved}

-- the disc; the base, where its journal ends and how many messages were heard; the market in memory; the last message's writes
pub record System : Type 0 where
  pub blocks : Disc
  pub base : Base
  pub end : ℕ
  pub heard : ℕ
  pub market : World
  pub sent : List Write

module _ (c : Format) where
  -- Appending a message at the journal's end e. First what is not looked at yet: no mark behind the new record, and its content; last its own mark, which commits.
  unfoldable pub content_writes : Lay → Disc → Base → ℕ → Message → List Write
  content_writes l f b e m =
      (journal_at l b + (suc e + length (c.content f m)), c.blank) ∷ listed (journal_at l b + suc e) (c.content f m)

  unfoldable pub appending : Lay → Disc → Base → ℕ → Message → List Write
  appending l f b e m = content_writes l f b e m ++ (journal_at l b + e, c.mark) ∷ []

  -- A checkpoint in the area that is not in use: its body, and an empty journal.
  unfoldable pub copied : Lay → Disc → World → ℕ → Base → List Write
  copied l f w h b = listed (body_at l b) (c.body f w h) ++ (journal_at l b, c.blank) ∷ []

  -- All its writes but the last are of blocks that are not looked at. While area 0 is valid area 1's commit block is not looked at either.
  unfoldable pub body_writes : Lay → Disc → Base → World → ℕ → List Write
  body_writes l f fresh w h = copied l f w h high
  body_writes l f low w h = copied l f w h high ++ (flag_at l high, c.mark) ∷ []
  body_writes l f high w h = copied l f w h low

  -- the write that makes the new area count
  unfoldable pub turning : Lay → Base → Write
  turning l fresh = (flag_at l high, c.mark)
  turning l low = (flag_at l low, c.blank)
  turning l high = (flag_at l low, c.mark)

  unfoldable pub moving : Lay → Disc → Base → World → ℕ → List Write
  moving l f b w h = body_writes l f b w h ++ turning l b ∷ []

  unfoldable pub start : Limits → Disc → System
  start z d =
      record {
        blocks = d;
        base = base_on c (lay c d) d;
        end = end_of (decode c d);
        heard = heard_of (decode c d);
        market = world_on c d;
        sent = [];
      }

  -- whether mark, content and the place of the next mark fit in what is left of the journal; else the journal is full
  abbrev pub fits : System → Message → Bool
  fits s m = nat_lt (suc s.end + length (c.content (first_blocks c s.blocks) m)) (lay c s.blocks).journal

  -- a message's writes, with w the market after it: its record, or where the journal is full a checkpoint that has the message in it
  unfoldable pub sends : System → World → Message → List Write
  sends s w m =
      pick (fits s m)
      (appending (lay c s.blocks) (first_blocks c s.blocks) s.base s.end m)
      (moving (lay c s.blocks) (first_blocks c s.blocks) s.base w (counted s.heard 1))

  -- a message that has bytes is put on the disc, also one that the market refuses
  unfoldable pub journalled : Limits → System → Message → System
  journalled z s m =
      record {
        blocks = written s.blocks (sends s (says z s.market m).0 m);
        base = pick (fits s m) s.base (moved s.base);
        end = pick (fits s m) (s.end + suc (length (c.content (first_blocks c s.blocks) m))) 0;
        heard = counted s.heard 1;
        market = (says z s.market m).0;
        sent = sends s (says z s.market m).0 m;
      }

  -- one that has none is refused, with no writes
  unfoldable pub passed_over : System → System
  passed_over s =
      record { blocks = s.blocks; base = s.base; end = s.end; heard = s.heard; market = s.market; sent = [] }

  unfoldable pub hears : Limits → System → Message → System × List Report
  hears z s m =
      pick (c.has_bytes (first_blocks c s.blocks) m) (journalled z s m, (says z s.market m).1) (passed_over s, no ∷ [])
