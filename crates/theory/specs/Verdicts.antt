-- Verdicts: what a state comes to. Assumes nothing.
use Rattle.std.specs.Prelude.{ℕ}
use Rattle.theory.specs.Meaning.{Meaning}
use Rattle.theory.specs.Types.{Tree}
use Rattle.theory.specs.States.{State}
use Rattle.theory.specs.Assignments.{AssignsUnclassed, Assigns}
use Rattle.theory.specs.Certificates.{Shape, Certificate, ClassesAdmitted}

-- A state has a certificate, with its classes met; or it has no assignment, even with the classes read as empty; or it has one with the classes
-- read as empty, but none with them.
pub data Verdict (m : Meaning) (s : State) : Type 0 where
  certified : (label rank : ℕ → ℕ) (shape : ℕ → Shape) → Certificate m s label rank shape → ClassesAdmitted m s label → Verdict m s
  clashes : ((type_of : ℕ → Tree) → AssignsUnclassed m s type_of → ⊥) → Verdict m s
  barred : (type_of : ℕ → Tree) → AssignsUnclassed m s type_of → ((type_of : ℕ → Tree) → Assigns m s type_of → ⊥) → Verdict m s
