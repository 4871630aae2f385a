use Rattle.theory.proofs.RingsOnStack.{ring_or_strict}
use Rattle.theory.proofs.cycle_is_ring_or_strict.Goals as goal

pub returns : goal.returns
returns c = λ m shape y stack on_stack. ring_or_strict m shape y stack on_stack
