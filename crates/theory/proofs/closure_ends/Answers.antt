use Rattle.theory.proofs.ClosureEnds.{closure_ends}
use Rattle.theory.proofs.closure_ends.Goals as goal

pub returns : goal.returns
returns c = λ m s lawful formed v closing. closure_ends lawful formed v closing
