use Rattle.theory.proofs.WalkMeasure.{walk_measure_falls}
use Rattle.theory.proofs.walk_measure_falls.Goals as goal

pub returns : goal.returns
returns c = λ most x k below. walk_measure_falls most x k below
