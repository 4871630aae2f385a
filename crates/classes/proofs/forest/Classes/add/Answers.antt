use Rattle.std.proofs.Common.{rules}
use Rattle.std.proofs.lemmas.List.{get_or-set_same, get_or-set_other}
use Rattle.classes.specs.Views.{class_of}
use Rattle.classes.proofs.ForestsChange.{forest_added}
use Rattle.classes.proofs.Changes.{cell_added}
use Rattle.classes.proofs.forest.Classes.add.Goals as goal

pub invariant_of-self : goal.invariant_of-self
invariant_of-self c = search (rules, forest_added, get_or-set_same, get_or-set_other)

pub returns : goal.returns
unfolding class_of
returns c = cell_added _ _ _ _ (search (rules, get_or-set_same)) (search (rules, get_or-set_same)) (search (rules, get_or-set_same)) (search (rules, get_or-set_same))
