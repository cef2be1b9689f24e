-- What a writer leaves behind the bytes that there were. Assumes nothing: these are definitions.
use Rattle.std.specs.Prelude.{◌≡◌, ℕ, Bool, true, false, List, ◌++◌, Ok, Err, Result}
use Rattle.wire.specs.declared.unwritten.Unwritten.{Unwritten}
use Rattle.wire.specs.declared.unwritten.Unwritten.TheVariants.{Memory}

-- the bytes xs stand behind those before, or for want of memory nothing has changed
abbrev pub Wrote : List ℕ → List ℕ → List ℕ → Result (Unit {0}) Unwritten → Type 0
Wrote before after xs (Ok u) = after ≡ before ++ xs
Wrote before after xs (Err e) = (after ≡ before) × (e ≡ Memory)

-- the same where it can be written at all; where not, refusal f, and nothing has changed
abbrev pub WroteIf : Bool → Unwritten → List ℕ → List ℕ → List ℕ → Result (Unit {0}) Unwritten → Type 0
WroteIf true f before after xs r = Wrote before after xs r
WroteIf false f before after xs r = (after ≡ before) × (r ≡ Err f)
