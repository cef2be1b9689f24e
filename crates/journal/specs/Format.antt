-- How messages and markets lie in the blocks of a disc. The rules of writing are stated for any such format, and the one that is used is an instance.
-- Assumes nothing: these are definitions.
use Rattle.std.specs.Prelude.{ℕ, Bool, List, Option}
use Rattle.venue.specs.World.{Limits, Message, World}
use Rattle.wire.specs.declared.refusal.Refusal.{Refusal}
use Rattle.blocks.specs.Disc.{Disc}

-- Most of it takes the first blocks of a disc, which say how many items and accounts there are, and the limits.
pub record Format : Type 0 where
  -- by block 0: how many blocks lie in front of the areas, and how many a checkpoint's body may have; by the disc's length too: how many a journal has
  pub first_size : List ℕ → ℕ
  pub body_size : List ℕ → ℕ
  pub journal_size : List ℕ → ℕ → ℕ
  -- why a disc is refused for its first blocks or its length, if it is
  pub first_refusal : Disc → Option Refusal
  -- the limits of the first blocks, whether limits are those, and the first market
  pub limits : Disc → Limits
  pub agrees : Limits → Disc → Bool
  pub first_market : Disc → World
  -- whether a market may be kept there
  pub good : Disc → World → Bool
  -- a checkpoint's body, for a market and how many messages were heard; the first block of a body that is not as it should be, and what a body holds
  pub body : Disc → World → ℕ → Disc
  pub body_fault : Disc → Disc → Option ℕ
  pub body_market : Disc → Disc → World
  pub body_heard : Disc → Disc → ℕ
  -- whether a message has bytes, and the blocks that hold them; the message in front of a row of blocks, and how many of these are its own
  pub has_bytes : Disc → Message → Bool
  pub content : Disc → Message → Disc
  pub reads : Disc → Disc → Option (Message × ℕ)
  -- whether a commit block says "committed" or "valid"; the block that says so, and the one that does not
  pub marked : List ℕ → Bool
  pub mark : List ℕ
  pub blank : List ℕ
