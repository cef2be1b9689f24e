use Rattle.std.proofs.Common.{◌≡◌, ◌≤◌, drop}
use Rattle.text.specs.Words.{digits_on, most_number, number}
use Rattle.text.proofs.number.number_in.Given as goal

abbrev pub invariant-loop-b : goal.invariant-loop-b
invariant-loop-b l = record { rest : digits_on l.n (drop l.b-index l.word) ≡ number l.word; small : l.n ≤ most_number }
