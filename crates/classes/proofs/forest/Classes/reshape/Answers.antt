use Rattle.std.proofs.Common.{◌≡◌, arith, rules}
use Rattle.std.proofs.lemmas.Grind.{get_or-set_at}
use Rattle.classes.specs.Views.{class_of, upper_of}
use Rattle.classes.proofs.LabelLaws.{upper_within}
use Rattle.classes.proofs.Changes.{upper_reshaped}
use Rattle.classes.proofs.forest.Classes.reshape.Goals as goal

pub bounds-self-from : goal.bounds-self-from
bounds-self-from c = grind (arith, upper_within c.args.self.now c.args.k)

pub returns : goal.returns
unfolding class_of
returns c =
    let u = upper_within c.args.self.now c.args.k c.requires in
    let e : c.from.result ≡ upper_of c.args.self.now c.args.k = cc in
    upper_reshaped c.args.k c.args.self.now _ (search (rules, get_or-set_at)) c.requires _ (search (rules, get_or-set_at)) (search (rules, get_or-set_at)) (search (rules, get_or-set_at))
