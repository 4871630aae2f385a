use Rattle.std.proofs.Common.{◌-◌, length}
use Rattle.checker.proofs.plans.print_items.Given as goal

abbrev pub decreases-loop-item : goal.decreases-loop-item
decreases-loop-item g l = length l.reader.words.now - l.reader.position
