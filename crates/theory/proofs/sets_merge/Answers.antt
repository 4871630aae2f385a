use Rattle.theory.proofs.SetsByLabel.{set_merge_laws}
use Rattle.theory.proofs.sets_merge.Goals as goal

pub returns : goal.returns
returns c = λ s label x y. set_merge_laws s label x y
