-- What this crate's errors say, in words. Assumes nothing: these are definitions.
use Rattle.std.specs.Prelude.{ℕ, List, codes}
use Rattle.disc.specs.declared.making.NotMade.{NotMade}
use Rattle.disc.specs.declared.making.NotMade.TheVariants.{ShortJournal, LongJournal, Memory}

-- why no new disc was made
abbrev pub not_made_text : NotMade → List ℕ
not_made_text ShortJournal = codes "the journal is too short for the longest records"
not_made_text LongJournal = codes "the journal has more than 1048576 blocks"
not_made_text Memory = codes "no memory for the disc"

-- that a row has no room for so many values
abbrev pub no_room_text : List ℕ
no_room_text = codes "there is no room for so many"

-- that a header cannot be made of its numbers
abbrev pub out_of_range_text : List ℕ
out_of_range_text = codes "a number of the market is out of range"
