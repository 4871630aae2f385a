use Rattle.theory.proofs.Choosing.{choice_by_meaning}
use Rattle.theory.proofs.choice_is_by_meaning.Goals as goal

pub returns : goal.returns
returns c = choice_by_meaning
