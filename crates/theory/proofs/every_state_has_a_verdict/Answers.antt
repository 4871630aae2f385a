use Rattle.theory.proofs.Verdicts.{every_state_has_a_verdict}
use Rattle.theory.proofs.every_state_has_a_verdict.Goals as goal

pub returns : goal.returns
returns c = λ m s lawful formed. every_state_has_a_verdict lawful formed
