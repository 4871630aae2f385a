use Rattle.plan.proofs.Unique.{one_reading}
use Rattle.plan.proofs.theorems.every_position_has_one_reading.Goals as goal

pub returns : goal.returns
returns c = one_reading
