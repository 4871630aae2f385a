use Rattle.std.proofs.Common.{get_or, refl}
use Rattle.std.proofs.lemmas.Result.{err_from_is_err_and}
use Rattle.plan.proofs.Front.{other_front, unknown_front}
use Rattle.plan.proofs.reader.first_item.Goals as goal

pub returns-in_err-set : goal.returns-in_err-set
returns-in_err-set g c =
    let p = err_from_is_err_and c.from_residual.result c.from_residual.ensures.1 in
    let e = c.in_err-set.ensures in
    rw (p.1, p.2, e.1) (other_front _ c.args.words.now (get_or c.args.words.now 0 0) (c.requires, refl) e.0)

pub returns-in-Unknown : goal.returns-in-Unknown
returns-in-Unknown g c =
    let s = rw c.in-Unknown.is at c.in_ok-set.ensures in
    unknown_front _ c.args.words.now (get_or c.args.words.now 0 0) c.in-Unknown.set (c.requires, refl) s.0 s.1

pub returns-in-Link : goal.returns-in-Link
returns-in-Link g c = c.link_after.ensures (g.A.Alphabet.meaning c.args.alphabet.now)
