use Rattle.theory.proofs.ClosureMoves.{closure_laws}
use Rattle.theory.proofs.closure_moves.Goals as goal

pub returns : goal.returns
returns c = λ m s lawful formed. closure_laws lawful formed
