use Rattle.theory.proofs.WalkEnds.{walk_ends}
use Rattle.theory.proofs.walk_ends.Goals as goal

pub returns : goal.returns
returns c = λ edges n most low few stack done stands walking in_order. walk_ends edges n most low few stack done stands walking in_order
