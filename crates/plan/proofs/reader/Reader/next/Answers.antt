use Rattle.std.proofs.Common.{◌≡◌, ℕ, ◌+◌, refl, ap, arith, rules}
use Rattle.std.proofs.lemmas.List.{take_rest}
use Rattle.std.proofs.lemmas.Result.{err_from_is_err_and}
use Rattle.plan.proofs.Answered.{hands_out, end_begins, takes_onward}
use Rattle.plan.proofs.MappedErrors.{was_ok, was_err, fault_at}
use Rattle.plan.proofs.reader.Reader.next.Goals as goal

pub returns-then-position-words-clause-hands_out : goal.returns-then-position-words-clause-hands_out
returns-then-position-words-clause-hands_out g c =
    let lawful = g.met.A.Alphabet.lawful c.args.alphabet.now in
    hands_out _ lawful.small_codes _ _ _ _ (end_begins _ c.args.self.now.words.now c.args.self.now.position (omega arith)) (omega arith) tt

pub returns-in_err-item-clause-hands_out : goal.returns-in_err-item-clause-hands_out
returns-in_err-item-clause-hands_out g c =
    let lawful = g.met.A.Alphabet.lawful c.args.alphabet.now in
    let p = err_from_is_err_and c.from_residual.result c.from_residual.ensures.1 in
    let was = was_err _ c.first_item.result c.map_err.result _ c.map_err.ensures.cases c.in_err-item.was in
    let begins = rw (was.1, take_rest c.args.self.now.words.now c.args.self.now.position) at c.first_item.ensures in
    let fault : c.in_err-item.field-0.0 ≡ fault_at c.args.self.now.position was.0 = search rules in
    rw (p.1, p.2, fault) (hands_out _ lawful.small_codes _ _ _ _ begins (omega arith) refl)

pub returns-clause-hands_out : goal.returns-clause-hands_out
returns-clause-hands_out g c =
    let lawful = g.met.A.Alphabet.lawful c.args.alphabet.now in
    let was = was_ok _ c.first_item.result c.map_err.result _ c.map_err.ensures.cases c.in_ok-item.was in
    let begins = rw (was, take_rest c.args.self.now.words.now c.args.self.now.position) at c.first_item.ensures in
    hands_out _ lawful.small_codes _ _ _ _ begins (ap (λ (n : ℕ). c.args.self.now.position + n) c.span_of.ensures) tt

pub returns-clause-onward : goal.returns-clause-onward
returns-clause-onward g c =
    let was = was_ok _ c.first_item.result c.map_err.result _ c.map_err.ensures.cases c.in_ok-item.was in
    let begins = rw (was, take_rest c.args.self.now.words.now c.args.self.now.position) at c.first_item.ensures in
    takes_onward _ _ _ _ _ begins (ap (λ (n : ℕ). c.args.self.now.position + n) c.span_of.ensures)
