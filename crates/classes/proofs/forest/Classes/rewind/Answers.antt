use Rattle.std.proofs.Common.{arith}
use Rattle.classes.proofs.Changes.{undoing_none, undoing_more, undoing_done}
use Rattle.classes.proofs.forest.Classes.rewind.Goals as goal

pub loop-init : goal.loop-init
loop-init c = record { left = omega arith; undoing = undoing_none c.args.self.now }

pub loop-preserved : goal.loop-preserved
loop-preserved c = record { left = omega arith; undoing = undoing_more _ _ _ c.loop.invariant.undoing c.undo.ensures }

pub returns : goal.returns
returns c = undoing_done _ _ _ (omega arith) c.loop.invariant.undoing
