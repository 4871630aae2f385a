use Rattle.std.proofs.Common.{◌-◌, length}
use Rattle.plan.proofs.Counted.{Counted}
use Rattle.plan.proofs.tally.count_items.Given as goal

abbrev pub invariant-loop-item : goal.invariant-loop-item
invariant-loop-item g l = Counted (g.A.Alphabet.meaning l.alphabet) l.words l.reader.words.now l.reader.position l.tally

abbrev pub decreases-loop-item : goal.decreases-loop-item
decreases-loop-item g l = length l.words - l.reader.position
