use Rattle.theory.proofs.ClosureStarts.{resumed_closing}
use Rattle.theory.proofs.certificate_resumes.Goals as goal

pub returns : goal.returns
returns c = λ m s label rank shape certificate a b a< b<. resumed_closing certificate a b a< b<
