use Rattle.std.proofs.Common.{arith, rules}
use Rattle.classes.proofs.ForestsChange.{forest_none}
use Rattle.classes.proofs.LabelLaws.{label_beyond}
use Rattle.classes.proofs.forest.Classes.open.Goals as goal

pub invariant_of-result : goal.invariant_of-result
invariant_of-result c = search (rules, forest_none)

pub returns-clause-labels : goal.returns-clause-labels
returns-clause-labels c = λ i. label_beyond _ i (omega arith)
