use Rattle.std.proofs.Common.{◌≡◌, arith, length}
use Rattle.std.proofs.lemmas.Grind.{common_steps}
use Rattle.text.specs.Entries.{word_of}
use Rattle.text.proofs.entry.WordFromRefSliceU8.from.Goals as goal

pub returns-in-orders : goal.returns-in-orders
unfolding word_of
returns-in-orders c = let n : length c.args.word.now ≡ 6 = omega arith in grind (arith, common_steps)

pub returns-in-journal : goal.returns-in-journal
unfolding word_of
returns-in-journal c = let n : length c.args.word.now ≡ 7 = omega arith in grind (arith, common_steps)

pub returns-in-accounts : goal.returns-in-accounts
unfolding word_of
returns-in-accounts c = let n : length c.args.word.now ≡ 8 = omega arith in grind (arith, common_steps)

pub returns-in-money : goal.returns-in-money
unfolding word_of
returns-in-money c = let n : length c.args.word.now ≡ 5 = omega arith in grind (arith, common_steps)

pub returns-in-item : goal.returns-in-item
unfolding word_of
returns-in-item c = let n : length c.args.word.now ≡ 4 = omega arith in grind (arith, common_steps)
