use Rattle.workspace.proofs.Determined.{calls_have_one_answer}
use Rattle.workspace.proofs.theorems.calls_have_one_answer.Goals as goal

pub returns : goal.returns
returns c = calls_have_one_answer
