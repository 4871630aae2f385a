use Rattle.theory.proofs.HeldPairwise.{one_label}
use Rattle.theory.proofs.joined_cells_have_one_label.Goals as goal

pub returns : goal.returns
returns c = λ m s label rank shape lawful consistent a b joined. one_label lawful consistent joined
