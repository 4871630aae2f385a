use Rattle.theory.proofs.Changes.{loops_are_in_changed_classes}
use Rattle.theory.proofs.loops_are_in_changed_classes.Goals as goal

pub returns : goal.returns
returns c = λ label label' rank shape shape' changed falling changes r pair first tail is round. loops_are_in_changed_classes changes falling r pair first tail is round
