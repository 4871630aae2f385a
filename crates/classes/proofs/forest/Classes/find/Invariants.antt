use Rattle.std.proofs.Common.{◌≡◌, ◌-◌, ◌<◌}
use Rattle.classes.specs.Forests.{time_in}
use Rattle.classes.specs.Trails.{lower_in}
use Rattle.classes.specs.Views.{count_of, label_of}
use Rattle.classes.proofs.forest.Classes.find.Given as goal

abbrev pub invariant-loop-at : goal.invariant-loop-at
invariant-loop-at l = (l.at < count_of l.self) × (label_of l.self l.at ≡ label_of l.self l.cell)

abbrev pub decreases-loop-at : goal.decreases-loop-at
decreases-loop-at l = 2048 - time_in (lower_in l.self.trail) l.self.links l.at
