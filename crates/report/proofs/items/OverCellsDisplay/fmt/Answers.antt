-- Several cells are listed. Assumes nothing.
use Rattle.std.proofs.Common.{◌≡◌, ℕ, ◌<◌, true, List, [], ◌∷◌, ◌++◌, map, length, codes, decimal, refl, sym, ap, ◌∙◌, arith, rules}
use Rattle.std.proofs.Output.{has_written_append, has_written_of_eq}
use Rattle.std.proofs.lemmas.Iterator.{YieldsList-from_slice}
use Rattle.std.proofs.lemmas.Simd.{map-map}
use Rattle.report.specs.Texts.{comma_separated_text}
use Rattle.report.specs.Items.{over_cells_text}
use Rattle.report.proofs.WholeRuns.{values_of_run}
use Rattle.report.proofs.items.OverCellsDisplay.fmt.Goals as goal

several_cells : (cells : List ℕ) → 1 < length cells → codes " over cells " ++ comma_separated_text (map decimal cells) ≡ over_cells_text cells
several_cells [] several = absurd (omega arith)
several_cells (cell ∷ []) several = absurd (omega arith)
several_cells (cell ∷ next ∷ cells) several = refl

pub returns-in_ok-write_str-in_default-clause-writes : goal.returns-in_ok-write_str-in_default-clause-writes
returns-in_ok-write_str-in_default-clause-writes g c = λ plain ok.
    let start = c.in_ok-write_str-in_default.ensures.writes plain (refl {a = true}) in
    let run = c.write_comma_separated.ensures (λ cell. decimal cell.now) (λ cell. refl) start.plain ok in
    let cells = values_of_run run.0 run.1 run.2 (YieldsList-from_slice c.args.self.now.0.now cc) in
    let texts = sym (map-map decimal (λ cell. cell.now) run.0.items) ∙ ap (map decimal) cells in
    let listed = ap (λ all. codes " over cells " ++ comma_separated_text all) texts ∙ several_cells c.args.self.now.0.now (search rules) in
    has_written_of_eq _ _ _ _ _ listed (has_written_append _ _ _ _ _ _ start run.3)
