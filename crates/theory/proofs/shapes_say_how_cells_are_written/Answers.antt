use Rattle.theory.proofs.ShapesOfClasses.{writing_laws}
use Rattle.theory.proofs.shapes_say_how_cells_are_written.Goals as goal

pub returns : goal.returns
returns c = λ m s label rank shape lawful certificate. writing_laws lawful certificate
