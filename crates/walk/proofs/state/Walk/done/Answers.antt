-- The order of a walk that stands has its laws.
use Rattle.std.proofs.Common.{arith}
use Rattle.std.proofs.lemmas.Grind.{common_steps}
use Rattle.walk.proofs.Orders.{walk_is_ordered}
use Rattle.walk.proofs.state.Walk.done.Goals as goal

pub returns-clause-ordered : goal.returns-clause-ordered
returns-clause-ordered c = λ links n stands. walk_is_ordered links n c.args.self.now (grind (arith, common_steps)) stands
