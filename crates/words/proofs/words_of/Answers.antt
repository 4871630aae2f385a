-- Each turn of the loop is a step of the reading, and each exit tells its outcome.
use Rattle.std.proofs.Common.{rules, arith}
use Rattle.words.specs.Reading.{Token, here}
use Rattle.words.proofs.ReadSoFar.{passed, one_word_more, all_read, stopped, at_line_end, at_blank, at_comment, at_token}
use Rattle.words.proofs.words_of.Goals as goal
use Rattle.words.proofs.words_of.Goals.{After-cut-in_default-2}

pub loop-rest-preserved-in-10 : goal.loop-rest-preserved-in-10
loop-rest-preserved-in-10 c = search (rules, passed, at_line_end)

pub loop-rest-preserved-in-35 : goal.loop-rest-preserved-in-35
loop-rest-preserved-in-35 c = search (rules, passed, at_comment)

pub loop-rest-preserved-then-is_white : goal.loop-rest-preserved-then-is_white
loop-rest-preserved-then-is_white c = passed c.loop-rest.invariant (at_blank _ (search rules) (search rules) (search rules))

token : (c : After-cut-in_default-2) → Token c.cut-in_default-2.result.0.now c.cut-in_default-2.result.1.now
token c = let cut = c.cut-in_default-2.ensures in at_token _ _ _ (search rules) (search rules) cut.whole cut.front cut.end

pub returns-in_err-word-in_default-2 : goal.returns-in_err-word-in_default-2
returns-in_err-word-in_default-2 c =
    let none = c.in_err-word-in_default-2.ensures.ok_part in
    let fault = stopped (rw c.cut-in_default-2.ensures.whole at c.loop-rest.invariant) (token (goal.at.returns-in_err-word-in_default-2 c).After-cut-in_default-2) (rw none at c.number_of.ensures) in
    search (rules, rw none at c.in_err-word-in_default-2.ensures.value, fault)

pub returns-in_err-push-in_default-2 : goal.returns-in_err-push-in_default-2
returns-in_err-push-in_default-2 c = grind (arith, here, at_token)

pub loop-rest-preserved : goal.loop-rest-preserved
loop-rest-preserved c =
    let spells = (rw c.in_ok-word-in_default-2.ensures.ok_part at c.number_of.ensures).0 in
    rw c.in_ok-push-in_default-2.ensures.items (one_word_more c.loop-rest.invariant c.cut-in_default-2.ensures.whole (token (goal.at.loop-rest-preserved c).After-cut-in_default-2) spells)

pub returns : goal.returns
returns c = search (rules, all_read)
