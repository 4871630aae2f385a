use Rattle.std.proofs.Common.{◌≡◌, ℕ, ◌+◌, ◌-◌, slice_index, slice_set, subst, refl, arith, rules}
use Rattle.std.proofs.lemmas.Grind.{get_or-set_at}
use Rattle.std.proofs.lemmas.List.{get_or-set_other}
use Rattle.classes.specs.Forests.{Forest}
use Rattle.classes.specs.Trails.{lower_in}
use Rattle.classes.specs.Views.{entry_of, lower_of, upper_of}
use Rattle.classes.proofs.ForestsChange.{forest_undone}
use Rattle.classes.proofs.Changes.{entries_undone}
use Rattle.classes.proofs.forest.Classes.undo.Goals as goal

pub invariant_of-self : goal.invariant_of-self
unfolding lower_in
invariant_of-self c =
    let t = c.args.self.now in
    let last : t.links ≡ t.links - 1 + 1 = let p = c.requires in omega arith in
    record { forest = forest_undone (t.links - 1) (subst (λ (n : ℕ). Forest (slice_index t.parents) (lower_in t.trail) t.count n) last t.forest) (search (rules, get_or-set_at)) (λ i n. search (rules, get_or-set_other)) }

pub returns : goal.returns
unfolding entry_of upper_of
returns c =
    let t = c.args.self.now in
    let k : ℕ = t.links - 1 in
    let last : k + 1 ≡ t.links = let p = c.requires in omega arith in
    let at_lower : c.from-2.result ≡ lower_of t k = cc in
    let at_upper : c.from-3.result ≡ upper_of t k = cc in
    let parents : slice_set t.parents c.from-2.result (lower_of t k) ≡ slice_set t.parents (lower_of t k) (lower_of t k) = rw at_lower refl in
    record { count = refl; links = last; parents = parents; classes = rw at_upper (search rules); entries = entries_undone _ _ last refl parents }
