use Rattle.std.proofs.Common.{◌≡◌, ℕ, None, sym, ap, ◌∙◌, arith, rules}
use Rattle.std.proofs.lemmas.Grind.{common_steps}
use borrow.Author.Tests.{tests}
use Rattle.disc.specs.Block0.{bad_number}
use Rattle.disc.specs.Few.{few_items}
use Rattle.disc.specs.Numbers.{in_range}
use Rattle.disc.specs.Sizes.{AreSizesOn}
use Rattle.disc.proofs.Refusals.{short, no_mark, out_of_range, ill_sized, not_refused}
use Rattle.disc.proofs.Fits.{range_on, same_numbers}
use Rattle.disc.proofs.header.reading.read.Goals as goal

pub returns-then-bytes-lt-BLOCK : goal.returns-then-bytes-lt-BLOCK
returns-then-bytes-lt-BLOCK c = short _ c.if-bytes-lt-BLOCK.true

pub returns-then-not-is_marked : goal.returns-then-not-is_marked
returns-then-not-is_marked c = no_mark c.args.bytes.now c.if-bytes-lt-BLOCK.false (sym c.if-not-is_marked.ensures)

pub returns-in_err-sizes : goal.returns-in_err-sizes
returns-in_err-sizes c =
    let marked = sym c.if-not-is_marked.ensures in
    let found = λ (i : ℕ). out_of_range c.args.bytes.now i c.if-bytes-lt-BLOCK.false marked in
    search (rules, tests, found)

pub is_bad_length-requires : goal.is_bad_length-requires
is_bad_length-requires c = search (rules, tests)

pub returns-then-is_bad_length : goal.returns-then-is_bad_length
returns-then-is_bad_length c =
    let none : bad_number c.args.bytes.now ≡ None = grind (arith, common_steps) in
    ill_sized c.args.bytes.now c.if-bytes-lt-BLOCK.false (sym c.if-not-is_marked.ensures) none (sym c.if-is_bad_length.ensures)

pub invariant_of-result : goal.invariant_of-result
invariant_of-result c =
    let none : bad_number c.args.bytes.now ≡ None = grind (arith, common_steps) in
    let sizes : AreSizesOn c.args.bytes.now c.in_ok-sizes.sizes = search (rules, tests) in
    let same = same_numbers c.args.bytes.now c.in_ok-sizes.sizes c.read.result (few_items c.items_of.result) sizes c.read.ensures c.items_of.ensures in
    record { fits = ap in_range same ∙ range_on c.args.bytes.now none (sym c.if-is_bad_length.ensures) }

pub returns : goal.returns
returns c =
    let none : bad_number c.args.bytes.now ≡ None = grind (arith, common_steps) in
    let sizes : AreSizesOn c.args.bytes.now c.in_ok-sizes.sizes = search (rules, tests) in (
      not_refused c.args.bytes.now c.if-bytes-lt-BLOCK.false (sym c.if-not-is_marked.ensures) none (sym c.if-is_bad_length.ensures),
      same_numbers c.args.bytes.now c.in_ok-sizes.sizes c.read.result (few_items c.items_of.result) sizes c.read.ensures c.items_of.ensures,
    )
