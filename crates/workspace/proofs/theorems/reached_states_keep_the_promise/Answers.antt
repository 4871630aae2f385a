use Rattle.workspace.proofs.Promised.{reached_states_keep_the_promise}
use Rattle.workspace.proofs.theorems.reached_states_keep_the_promise.Goals as goal

pub returns : goal.returns
returns c = reached_states_keep_the_promise
