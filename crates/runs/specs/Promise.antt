-- What holds of every run. Assumes nothing.
use Rattle.std.specs.Prelude.{ℕ, List, Result}
use Rattle.theory.specs.Meaning.{Meaning, Lawful, Agree}
use Rattle.theory.specs.States.{State}
use Rattle.theory.specs.SameEquations.{SameEquations}
use Rattle.workspace.specs.declared.fault.Fault.{Fault}
use Rattle.workspace.specs.Calls.{ShowCall}
use Rattle.workspace.specs.Promise.{Same, Promise}
use Rattle.runs.specs.Runs.{Call, Outcome, Step, Run}

-- What is promised after a run: the next call has an outcome and only one; the promise of its state; and any other run, of its own calls, over a lawful meaning
-- that agrees, that leads to the same cells in order and the same accepted equations, shows every list alike.
pub record RunPromise (m : Meaning) (s : State) : Type 0 where
  pub goes_on : (c : Call) → (o : Outcome) × (t : State) × Step m s c o t
  pub one_way : (c : Call) (o q : Outcome) (t u : State) → Step m s c o t → Step m s c q u → Same o q t u
  pub promise : Promise m s
  pub shows_alike : (n : Meaning) → Lawful n → Agree m n → (calls : List Call) (outcomes : List Outcome) (u : State) → Run n calls outcomes u → SameEquations s u →
      (cells buffer : List ℕ) (r q : Result ℕ Fault) (after after' : List ℕ) → ShowCall m s cells buffer r after → ShowCall n u cells buffer q after' → Same r q after after'

abbrev pub RunsKeepThePromise : Type 0
RunsKeepThePromise = (m : Meaning) → Lawful m → (calls : List Call) (outcomes : List Outcome) (s : State) → Run m calls outcomes s → RunPromise m s
