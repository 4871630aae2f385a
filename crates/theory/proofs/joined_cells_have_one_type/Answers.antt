use Rattle.theory.proofs.Soundness.{joined_cells_have_one_type}
use Rattle.theory.proofs.joined_cells_have_one_type.Goals as goal

pub returns : goal.returns
returns c = λ m s type_of lawful assigns a b joined. joined_cells_have_one_type lawful assigns joined
