-- What a row with room for few holds. Assumes nothing: this is a definition.
use Rattle.std.specs.Prelude.{ℕ, List, take}
use Rattle.disc.specs.declared.few.Few.{Few}

-- the values that are meant
abbrev pub few_items : {T : Type 0} {N : ℕ} → Few T N → List T
few_items f = take f.count f.room
