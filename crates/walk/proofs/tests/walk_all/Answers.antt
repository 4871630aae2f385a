-- A new walk stands over every graph, and a walk from a start leaves it standing.
use Rattle.walk.proofs.tests.walk_all.Goals as goal

pub loop-start-init : goal.loop-start-init
loop-start-init c = (c.new-walk.ensures.stands _ _, c.new-walk.ensures.nowhere)
