use Rattle.theory.proofs.DoneNodesHaveRanks.{done_nodes_have_ranks}
use Rattle.theory.proofs.done_nodes_have_ranks.Goals as goal

pub returns : goal.returns
returns c = λ edges done old in_order falls. done_nodes_have_ranks done old in_order falls
