use Rattle.theory.proofs.ClashRefuses.{clash_refuses}
use Rattle.theory.proofs.clash_leaves_no_assignment.Goals as goal

pub returns : goal.returns
returns c = λ m s lawful clash type_of assigns. clash_refuses lawful assigns clash
