-- A cell more, with its places after those of the others.
use Rattle.std.proofs.Common.{rules}
use Rattle.std.proofs.lemmas.Slice.{overwrites}
use Rattle.std.proofs.lemmas.Option.{slice_get-get_or}
use Rattle.theory.specs.States.{term}
use Rattle.cells.specs.Contents.{cells_of}
use Rattle.cells.proofs.Growth.{cells_more, within_more, sound_more, places_more}
use Rattle.cells.proofs.Holdings.{count_is_length, filled_is_places}
use Rattle.cells.proofs.storage.Cells.add_term.Goals as goal

pub invariant_of-self : goal.invariant_of-self
invariant_of-self c =
    let t = c.args.self.now in
    let cell = term c.args.code c.args.places.now in
    let counted = count_is_length t in
    let filled = filled_is_places t in
    record {
      whole = search rules;
      few = search rules;
      room = search rules;
      within = within_more t _ _ (search rules) (search rules) (search rules);
      sound = sound_more t _ _ cell (search rules) (search (rules, overwrites)) (search (rules, overwrites))
          (record { set = search rules; code = search rules; few = search rules; lower = λ k d h. c.requires.stand k _ (slice_get-get_or c.args.places.now k d h) });
      brim = places_more t _ _ cell _ (search rules) (search (rules, overwrites)) (search (rules, overwrites)) (search rules);
    }

pub returns-clause-cells : goal.returns-clause-cells
unfolding cells_of
returns-clause-cells c =
    let counted = count_is_length c.args.self.now in
    cells_more c.args.self.now _ _ _ (search rules) (search (rules, overwrites)) (search (rules, overwrites))
