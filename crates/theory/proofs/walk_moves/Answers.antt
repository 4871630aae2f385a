use Rattle.theory.proofs.WalkMoves.{walk_laws}
use Rattle.theory.proofs.walk_moves.Goals as goal

pub returns : goal.returns
returns c = λ edges done x k below walking. walk_laws edges done x k below walking
