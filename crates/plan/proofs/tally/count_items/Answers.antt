use Rattle.std.proofs.lemmas.Result.{err_from_is_err_and}
use Rattle.plan.specs.Items.{item_of}
use Rattle.plan.proofs.Counted.{counted_none, counted_on, counted_whole, counted_broken, room, not_cut}
use Rattle.plan.proofs.tally.count_items.Goals as goal

pub loop-item-init : goal.loop-item-init
loop-item-init g c = counted_none _ _ _ _ c.in_ok-reader.ensures

pub returns-in_err-item : goal.returns-in_err-item
returns-in_err-item g c =
    let p = err_from_is_err_and c.from_residual-in_err-item.result c.from_residual-in_err-item.ensures.1 in
    rw (p.1, p.2) (counted_broken _ _ _ _ _ c.loop-item.invariant _ _ c.in_err-item.ensures.hands_out)

pub loop-item-preserved : goal.loop-item-preserved
loop-item-preserved g c =
    let r = room _ _ _ _ _ c.loop-item.invariant (item_of c.in-Some.item) in
    counted_on _ _ _ _ _ c.loop-item.invariant c.in-Some.item _ _ _ c.next.ensures.same (rw c.in-Some.is at c.in_ok-item.ensures.hands_out) (not_cut _ _ c.and-tally.ensures.items r.0) (not_cut _ _ c.and-tally.ensures.cells r.1)

pub returns : goal.returns
returns g c = counted_whole _ _ _ _ _ c.loop-item.invariant _ (rw c.in_default.is at c.in_ok-item.ensures.hands_out)
