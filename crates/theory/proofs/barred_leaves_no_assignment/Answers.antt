use Rattle.theory.proofs.BarredRefuses.{barred_refuses}
use Rattle.theory.proofs.barred_leaves_no_assignment.Goals as goal

pub returns : goal.returns
returns c = λ m s lawful barred type_of assigns. barred_refuses lawful assigns barred
