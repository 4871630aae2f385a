use Rattle.theory.proofs.HeldPairwise.{consistent_pairwise}
use Rattle.theory.proofs.FillingsAreRows.{fillings_are_rows}
use Rattle.theory.proofs.fillings_are_rows.Goals as goal

pub returns : goal.returns
returns c = λ m s label rank shape lawful formed certificate admitted cells words standing listing filling row fills. fillings_are_rows lawful formed (consistent_pairwise lawful certificate.consistent) certificate.label_joined admitted standing listing filling row fills
