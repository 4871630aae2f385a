use Rattle.theory.proofs.HeldPairwise.{consistent_pairwise}
use Rattle.theory.proofs.ChoiceFixesAssignment.{choice_fixes_assignment}
use Rattle.theory.proofs.choice_fixes_assignment.Goals as goal

pub returns : goal.returns
returns c = λ m s label rank shape lawful certificate type_of type_of' assigns assigns' agree i. choice_fixes_assignment lawful (consistent_pairwise lawful certificate.consistent) certificate.label_joined assigns assigns' agree i
