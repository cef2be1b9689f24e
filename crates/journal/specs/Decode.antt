-- The market on a disc, or why the disc is refused. Assumes nothing: these are definitions.
use Rattle.std.specs.Prelude.{ℕ, ◌+◌, ◌%◌, Bool, not, ◌||◌, [], length, is_some, Some, None, Option, slice_index_or}
use Rattle.venue.specs.World.{Limits, World, first, pick, run}
use Rattle.wire.specs.declared.refusal.Refusal.{Refusal}
use Rattle.wire.specs.declared.refusal.Refusal.TheVariants.{Layout}
use Rattle.blocks.specs.Disc.{Disc, is_disc, row}
use Rattle.journal.specs.Format.{Format}
use Rattle.journal.specs.Places.{Base, Lay, body_at, first_blocks, flag_at, fresh, high, journal_at, lay, low}
use Rattle.journal.specs.Walk.{Walked, broken, ended, walk}

-- what is found: the market, the journal's block at which it ends, and how many messages were heard; or the first block that is not as it should be
pub data Found : Type 0 where
  faulty : ℕ → Found
  found : World → ℕ → ℕ → Found

-- how many messages were heard, n after h: counted in 64 bits, from 0 again after the last number, so that no count runs out
abbrev pub counted : ℕ → ℕ → ℕ
counted h n = (h + n) % 18446744073709551616

-- a body from block p on has a fault, or what comes after it counts
unfoldable pub unless_fault : ℕ → Option ℕ → Found → Found
unless_fault p (Some k) o = faulty (p + k)
unless_fault p None o = o

-- a market with limits z, h messages heard, and the messages of the journal from block p on told to it
unfoldable pub replayed : Limits → World → ℕ → ℕ → Walked → Found
replayed z w h p (broken i) = faulty (p + i)
replayed z w h p (ended ms e) = found (run z w ms) e (counted h (length ms))

unfoldable pub market_of : Found → World
market_of (faulty b) = first [] 0
market_of (found w e h) = w

unfoldable pub end_of : Found → ℕ
end_of (faulty b) = 0
end_of (found w e h) = e

unfoldable pub heard_of : Found → ℕ
heard_of (faulty b) = 0
heard_of (found w e h) = h

-- a fault is refused by its block
unfoldable pub layout_refusal : Found → Option Refusal
layout_refusal (faulty b) = Some (Layout b)
layout_refusal (found w e h) = None

-- the first of two refusals
unfoldable pub or_else : Option Refusal → Option Refusal → Option Refusal
or_else (Some e) o = Some e
or_else None o = o

module _ (c : Format) where
  -- area 0's checkpoint if its commit block is marked, else area 1's if that is, else the first market
  unfoldable pub base_on : Lay → Disc → Base
  base_on l d = pick (c.marked (slice_index_or d (flag_at l low) [])) low (pick (c.marked (slice_index_or d (flag_at l high) [])) high fresh)

  -- the first fault of the base's body, its market, and how many messages were heard by then; f: the first blocks
  unfoldable pub base_fault : Lay → Disc → Disc → Base → Option ℕ
  base_fault l f d fresh = None
  base_fault l f d low = c.body_fault f (row d (body_at l low) l.body)
  base_fault l f d high = c.body_fault f (row d (body_at l high) l.body)

  unfoldable pub base_market : Lay → Disc → Disc → Base → World
  base_market l f d fresh = c.first_market f
  base_market l f d low = c.body_market f (row d (body_at l low) l.body)
  base_market l f d high = c.body_market f (row d (body_at l high) l.body)

  unfoldable pub base_heard : Lay → Disc → Disc → Base → ℕ
  base_heard l f d fresh = 0
  base_heard l f d low = c.body_heard f (row d (body_at l low) l.body)
  base_heard l f d high = c.body_heard f (row d (body_at l high) l.body)

  -- the base's journal
  abbrev pub walked : Lay → Disc → Disc → Base → Walked
  walked l f d b = walk c.marked (c.reads f) (row d (journal_at l b) l.journal) 0 0 0

  unfoldable pub opened : Lay → Disc → Disc → Base → Found
  opened l f d b =
      unless_fault (body_at l b) (base_fault l f d b)
      (replayed (c.limits f) (base_market l f d b) (base_heard l f d b) (journal_at l b) (walked l f d b))

  -- what a start finds on a disc whose first blocks are as they should be. The area that is not the base's is not looked at
  unfoldable pub decode : Disc → Found
  decode d = opened (lay c d) (first_blocks c d) d (base_on (lay c d) d)

  -- why a disc is refused, if it is
  unfoldable pub refusal : Disc → Option Refusal
  refusal d = or_else (c.first_refusal d) (layout_refusal (decode d))

  -- whether a start with limits z refuses a disc: it is no row of blocks of bytes, it is refused, or its limits are others
  unfoldable pub refused : Limits → Disc → Bool
  refused z d = not (is_disc d) || (is_some (refusal d) || not (c.agrees z (first_blocks c d)))

  unfoldable pub world_on : Disc → World
  world_on d = market_of (decode d)
