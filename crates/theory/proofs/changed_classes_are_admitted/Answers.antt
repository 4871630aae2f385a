use Rattle.theory.proofs.Changes.{changed_classes_are_admitted}
use Rattle.theory.proofs.changed_classes_are_admitted.Goals as goal

pub returns : goal.returns
returns c = λ m s label label' shape shape' changed lawful old changes new. changed_classes_are_admitted changes lawful old new
