use Rattle.theory.proofs.ShapesOfClasses.{backing_laws}
use Rattle.theory.proofs.shapes_are_backed.Goals as goal

pub returns : goal.returns
returns c = λ m s lawful formed. backing_laws lawful formed
