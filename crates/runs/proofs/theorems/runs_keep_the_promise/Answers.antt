use Rattle.runs.proofs.Running.{runs_keep_the_promise}
use Rattle.runs.proofs.theorems.runs_keep_the_promise.Goals as goal

pub returns : goal.returns
returns c = runs_keep_the_promise
