use Rattle.theory.proofs.NewCell.{new_cell_keeps_classes}
use Rattle.theory.proofs.new_cell_keeps_classes.Goals as goal

pub returns : goal.returns
returns c = λ m s x label rank shape lawful formed formed' certificate admitted new. new_cell_keeps_classes lawful x formed formed' certificate admitted new
