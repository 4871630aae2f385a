use Rattle.theory.proofs.RingsOnStack.{ring_is_joined}
use Rattle.theory.proofs.ring_is_joined.Goals as goal

pub returns : goal.returns
returns c = λ m s label shape lawful formed settled done x k y below walking e found. ring_is_joined lawful formed settled walking e found
