use Rattle.theory.proofs.HeldPairwise.{consistent_pairwise}
use Rattle.theory.proofs.SomeTypes.{leaf_type, leaf_is_type}
use Rattle.theory.proofs.Completeness.{assigned, assigned_extends}
use Rattle.theory.proofs.consistent_state_has_unclassed_assignment.Goals as goal

pub returns : goal.returns
returns c = λ m s label rank shape lawful formed consistent. (assigned lawful formed (consistent_pairwise lawful consistent) (λ r. leaf_type lawful) (λ r. leaf_is_type lawful), (assigned_extends lawful formed (consistent_pairwise lawful consistent) (λ r. leaf_type lawful) (λ r. leaf_is_type lawful)).assigns)
