-- A walk that has touched nothing stands over every graph.
use Rattle.walk.proofs.Ends.{nothing_stands}
use Rattle.walk.proofs.state.Walk.new.Goals as goal

pub returns-clause-stands : goal.returns-clause-stands
returns-clause-stands c = λ links n. search nothing_stands
