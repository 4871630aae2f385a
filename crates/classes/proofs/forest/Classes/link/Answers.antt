use Rattle.std.proofs.Common.{rules}
use Rattle.std.proofs.lemmas.Grind.{get_or-set_at}
use Rattle.std.proofs.lemmas.List.{get_or-set_same, get_or-set_other}
use Rattle.classes.specs.Trails.{lower_in}
use Rattle.classes.specs.Views.{class_of}
use Rattle.classes.proofs.ForestsChange.{forest_linked}
use Rattle.classes.proofs.LabelLaws.{links_below_count, own_parent}
use Rattle.classes.proofs.Changes.{class_linked}
use Rattle.classes.proofs.forest.Classes.link.Goals as goal

pub bounds-self-self : goal.bounds-self-self
bounds-self-self c = search (rules, links_below_count)

pub invariant_of-self : goal.invariant_of-self
unfolding lower_in
invariant_of-self c =
    let l = links_below_count c.args.self.now c.args.x c.requires.cells.0 c.requires.classes.0 in
    record {
      forest = forest_linked {x = c.args.x} {y = c.args.y} c.args.self.now.forest c.requires.cells.0 c.requires.cells.1 (search (rules, own_parent)) (search (rules, own_parent)) c.requires.apart
          (search (rules, get_or-set_at)) (λ i n. search (rules, get_or-set_other)) (search (rules, get_or-set_same)) (λ k h. search (rules, get_or-set_other));
    }

pub returns : goal.returns
unfolding class_of
returns c =
    let l = links_below_count c.args.self.now c.args.x c.requires.cells.0 c.requires.classes.0 in
    class_linked c.args.x c.args.y c.args.self.now _ (search (rules, get_or-set_at)) c.requires.cells.0 c.requires.cells.1 c.requires.classes.0 c.requires.classes.1 c.requires.apart
    _ (search (rules, get_or-set_at)) (search (rules, get_or-set_at)) (search (rules, get_or-set_at))
