use Rattle.theory.proofs.Changes.{moves_change_few}
use Rattle.theory.proofs.moves_change_few.Goals as goal

pub returns : goal.returns
returns c = λ label shape fixed. moves_change_few label shape fixed
