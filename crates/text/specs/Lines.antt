-- Reports, refusals and faults as lines of text. Assumes nothing: these are definitions.
use Rattle.std.specs.Prelude.{ℕ, cond, List, ◌++◌, codes, decimal, nat_lt}
use Rattle.std.specs.Fmt.{signed_decimal}
use Rattle.venue.specs.World.{Report, done, no, trade, torn}
use Rattle.wire.specs.Means.{refusal_number, refusal_place}
use Rattle.wire.specs.declared.refusal.Refusal.{Refusal}
use Rattle.text.specs.declared.fault.Fault.{Fault}
use Rattle.text.specs.declared.fault.What.{What}
use Rattle.text.specs.declared.fault.What.TheVariants.{UnknownWord, OutOfRange, Twice, Missing, NoItem, TooManyItems}

-- a report's line: taken, with the new order's number or 0; refused; a trade of the newer and the older order; a holding torn up, with its sign
abbrev pub report_line : Report → List ℕ
report_line (done n) = codes "taken " ++ decimal n
report_line no = codes "refused"
report_line (trade n m k p x) =
    codes "trade " ++ (decimal n ++ (codes " " ++ (decimal m ++ (codes " item " ++ (decimal k ++ (codes " at " ++ (decimal p ++ (codes " of " ++ decimal x))))))))
report_line (torn a b k x) =
    codes "torn " ++ (decimal a ++ (codes " " ++ (decimal b ++ (codes " item " ++ (decimal k ++ (codes " " ++ signed_decimal x))))))

-- who is refused: the disc by numbers 1 to 5, a message by number 6
abbrev pub refused_what : ℕ → List ℕ
refused_what n = cond (nat_lt n 6) (codes "disc refused ") (codes "message refused ")

-- a refusal's number and its place
abbrev pub refusal_line : ℕ → ℕ → List ℕ
refusal_line n i = refused_what n ++ (decimal n ++ (codes " at " ++ decimal i))

-- the line of a refusal
abbrev pub line_of_refusal : Refusal → List ℕ
line_of_refusal r = refusal_line (refusal_number r) (refusal_place r)

-- what is wrong with a setup file, in words
abbrev pub what_text : What → List ℕ
what_text UnknownWord = codes "unknown word"
what_text OutOfRange = codes "number missing or out of range"
what_text Twice = codes "given twice"
what_text Missing = codes "accounts, orders or money missing"
what_text NoItem = codes "no item"
what_text TooManyItems = codes "more than 256 items"

-- a fault of a setup file: its line's number, and what is wrong
abbrev pub fault_line : Fault → List ℕ
fault_line f = codes "line " ++ (decimal f.line ++ (codes ": " ++ what_text f.what))
