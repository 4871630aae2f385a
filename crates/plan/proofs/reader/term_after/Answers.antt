use Rattle.std.proofs.Common.{rules}
use Rattle.plan.proofs.Front.{code_front, short_term_front, term_part}
use Rattle.plan.proofs.reader.term_after.Goals as goal

pub returns-then-not-known : goal.returns-then-not-known
returns-then-not-known g c = search (rules, code_front)

pub returns-in_default : goal.returns-in_default
returns-in_default g c =
    let cut = rw c.in_default.is at c.get.ensures.lookup in
    search (rules, short_term_front)

pub returns : goal.returns
returns g c =
    let part = rw c.in-Some.is at c.get.ensures.lookup in
    search (rules, term_part)
