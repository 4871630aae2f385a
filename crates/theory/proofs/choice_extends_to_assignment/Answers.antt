use Rattle.theory.proofs.HeldPairwise.{consistent_pairwise}
use Rattle.theory.proofs.Completeness.{assigned, assigned_extends}
use Rattle.theory.proofs.choice_extends_to_assignment.Goals as goal

pub returns : goal.returns
returns c = λ m s label rank shape lawful formed consistent choice types. (assigned lawful formed (consistent_pairwise lawful consistent) choice types, assigned_extends lawful formed (consistent_pairwise lawful consistent) choice types)
