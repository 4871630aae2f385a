use Rattle.theory.proofs.StatesStayFormed.{empty_certificate, empty_admitted}
use Rattle.theory.proofs.empty_state_is_certified.Goals as goal

pub returns : goal.returns
returns c = λ m lawful. (empty_certificate m, empty_admitted lawful)
