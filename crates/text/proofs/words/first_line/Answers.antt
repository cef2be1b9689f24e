use Rattle.std.proofs.Common.{◌≡◌, eqb, None, Some, sym, ◌∙◌, arith, rules, tests}
use Rattle.std.specs.List.{position}
use Rattle.std.proofs.lemmas.Grind.{common_steps}
use Rattle.std.proofs.lemmas.Iterator.{YieldsList-from_slice}
use Rattle.std.proofs.lemmas.Iterator.Search.{position_from_yields_List}
use Rattle.text.proofs.FirstLine.{line_alone, line_found, lines_next}
use Rattle.text.proofs.words.first_line.Goals as goal
use Rattle.text.proofs.words.first_line.Goals.{After-position}

-- the first line feed's place, as the library has it
by_place : (c : After-position) → c.position.result ≡ position (λ b. eqb b 10) c.args.bytes.now
by_place c =
    position_from_yields_List (λ b. eqb b 10) _ _ c.position.result c.position.ensures.ran (YieldsList-from_slice c.args.bytes.now cc)
    (λ x b q k. search (rules, tests))

pub returns-in-Some-clause-lines : goal.returns-in-Some-clause-lines
returns-in-Some-clause-lines c = λ some.
    let next = lines_next c.args.bytes.now some in
    let found = line_found c.args.bytes.now c.in-Some.end (sym (by_place (goal.at.returns-in-Some-clause-lines c).After-position) ∙ c.in-Some.is) in
    grind (arith, common_steps)

pub returns-in-None-clause-lines : goal.returns-in-None-clause-lines
returns-in-None-clause-lines c = λ some.
    let next = lines_next c.args.bytes.now some in
    let alone = line_alone c.args.bytes.now (sym (by_place (goal.at.returns-in-None-clause-lines c).After-position) ∙ c.in-None.is) in
    grind (arith, common_steps)
