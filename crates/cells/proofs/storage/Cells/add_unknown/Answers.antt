-- A cell with no places more.
use Rattle.std.proofs.Common.{refl, rules}
use Rattle.cells.specs.Contents.{cells_of}
use Rattle.cells.proofs.Growth.{cells_more, within_more, sound_more, places_more}
use Rattle.cells.proofs.Holdings.{count_is_length}
use Rattle.cells.proofs.storage.Cells.add_unknown.Goals as goal

pub invariant_of-self : goal.invariant_of-self
invariant_of-self c =
    let t = c.args.self.now in
    let counted = count_is_length t in
    record {
      whole = search rules;
      few = search rules;
      room = search rules;
      within = within_more t _ _ (search rules) (search rules) (search rules);
      sound = sound_more t _ _ _ (search rules) refl refl (search rules);
      brim = places_more t _ _ _ _ (search rules) refl refl (search rules);
    }

pub returns-clause-cells : goal.returns-clause-cells
unfolding cells_of
returns-clause-cells c =
    let counted = count_is_length c.args.self.now in
    cells_more c.args.self.now _ _ _ (search rules) refl (search rules)
