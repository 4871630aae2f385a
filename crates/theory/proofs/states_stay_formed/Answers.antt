use Rattle.theory.proofs.StatesStayFormed.{formed_laws}
use Rattle.theory.proofs.states_stay_formed.Goals as goal

pub returns : goal.returns
returns c = λ m. formed_laws m
