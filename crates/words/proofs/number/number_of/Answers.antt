-- A token is hexadecimal behind 0x, and else decimal.
use Rattle.words.proofs.SpelledNumber.{behind_0x, elsewhere, finds_like}
use Rattle.words.proofs.number.number_of.Goals as goal

pub returns-in-Some : goal.returns-in-Some
returns-in-Some c =
    let cut = c.in-Some.ensures.cases in
    finds_like _ _ _ (behind_0x _ cut.0) (rw cut.1 at c.numeral_value.ensures)

pub returns-in-None : goal.returns-in-None
returns-in-None c = finds_like _ _ _ (elsewhere _ c.in-None.ensures.cases) c.numeral_value-in-None.ensures
