-- A journal, read from its front. Assumes nothing: these are definitions.
use Rattle.std.specs.Prelude.{ℕ, zero, suc, Bool, List, [], ◌∷◌, is_some, Some, None, Option}
use Rattle.venue.specs.World.{Message, begin_day, pick}
use Rattle.blocks.specs.Disc.{Disc}

-- what is found: the messages of the records, and the block behind the last; or the first block of a record that is none
pub data Walked : Type 0 where
  broken : ℕ → Walked
  ended : List Message → ℕ → Walked

unfoldable pub also : Message → Walked → Walked
also m (broken i) = broken i
also m (ended ms e) = ended (m ∷ ms) e

-- a record's message, and how many blocks it has
unfoldable pub message_in : Option (Message × ℕ) → Message
message_in (Some p) = p.0
message_in None = begin_day

unfoldable pub blocks_in : Option (Message × ℕ) → ℕ
blocks_in (Some p) = p.1
blocks_in None = 0

-- The blocks of a journal from block i on; the first k of them belong to the record that begins at block r. A record is a block with the mark, and its message's
-- blocks behind it. The journal ends at the first block without the mark where a record could begin; a record that leaves no such block behind it is none.
unfoldable pub walk : (List ℕ → Bool) → (Disc → Option (Message × ℕ)) → Disc → ℕ → ℕ → ℕ → Walked
walk marked reads [] k i r = broken r
walk marked reads (b ∷ bs) (suc k) i r = walk marked reads bs k (suc i) r
walk marked reads (b ∷ bs) zero i r =
    pick (marked b)
    (pick (is_some (reads bs)) (also (message_in (reads bs)) (walk marked reads bs (blocks_in (reads bs)) (suc i) i)) (broken i))
    (ended [] i)
