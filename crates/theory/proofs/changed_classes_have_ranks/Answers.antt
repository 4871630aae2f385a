use Rattle.theory.proofs.ChangedClassesHaveRanks.{changed_classes_have_ranks}
use Rattle.theory.proofs.changed_classes_have_ranks.Goals as goal

pub returns : goal.returns
returns c = λ label label' rank shape shape' changed done falling changes is_done in_order. changed_classes_have_ranks falling changes is_done in_order
