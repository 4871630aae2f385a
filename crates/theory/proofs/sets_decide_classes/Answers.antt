use Rattle.theory.proofs.SetsByLabel.{set_laws}
use Rattle.theory.proofs.sets_decide_classes.Goals as goal

pub returns : goal.returns
returns c = λ m s label rank shape lawful formed certificate. set_laws lawful formed certificate
