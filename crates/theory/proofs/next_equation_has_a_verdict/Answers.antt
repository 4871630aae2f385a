use Rattle.theory.proofs.Verdicts.{next_equation_has_a_verdict}
use Rattle.theory.proofs.next_equation_has_a_verdict.Goals as goal

pub returns : goal.returns
returns c = λ m s label rank shape lawful formed certificate a b a< b<. next_equation_has_a_verdict lawful formed certificate a b a< b<
