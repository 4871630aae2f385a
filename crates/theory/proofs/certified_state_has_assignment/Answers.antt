use Rattle.theory.proofs.HeldPairwise.{consistent_pairwise}
use Rattle.theory.proofs.FillingsAreRows.{certified_state_has_assignment}
use Rattle.theory.proofs.certified_state_has_assignment.Goals as goal

pub returns : goal.returns
returns c = λ m s label rank shape lawful formed certificate admitted. certified_state_has_assignment lawful formed (consistent_pairwise lawful certificate.consistent) certificate.label_joined admitted
