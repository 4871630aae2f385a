use Rattle.theory.proofs.RingsOnStack.{strict_cycle_clashes}
use Rattle.theory.proofs.strict_cycle_clashes.Goals as goal

pub returns : goal.returns
returns c = λ m s label shape lawful formed settled done x k y below walking e found. strict_cycle_clashes lawful formed settled walking e found
