-- The walk has gone on from its first push, and less is left to do.
use Rattle.walk.specs.Progress.{pushed}
use Rattle.walk.specs.Stands.{Onward, left}
use Rattle.walk.proofs.state.Walk.from.Given as goal

abbrev pub invariant-loop-self : goal.invariant-loop-self
invariant-loop-self g l = Onward (g.G.Graph.edges l.graph) (g.G.Graph.size l.graph) (pushed l.start l.fn.self) l.self

abbrev pub decreases-loop-self : goal.decreases-loop-self
decreases-loop-self g l = left l.self
