use Rattle.theory.proofs.PendingIsBounded.{pending_is_bounded}
use Rattle.theory.proofs.pending_is_bounded.Goals as goal

pub returns : goal.returns
returns c = λ m s. pending_is_bounded m s
