-- The line that is printed for an item of a plan. Assumes nothing.
use Rattle.std.specs.Prelude.{ℕ, cond, List, [], ◌∷◌, map, codes, decimal, ◌==◌}
use Rattle.plan.specs.Items.{Item, unknown, term, link}
use Rattle.report.specs.declared.names.Names.{Names}
use Rattle.report.specs.Texts.{◌then◌, comma_separated_text}
use Rattle.report.specs.Names.{symbol_text, classes_text}

-- the classes that must admit an unknown, where there are any
abbrev pub of_classes_text : Names → ℕ → List ℕ
of_classes_text names set = cond (set == 0) [] (codes " of " then classes_text names set)

-- the cells at the places of a term
abbrev pub over_cells_text : List ℕ → List ℕ
over_cells_text [] = []
over_cells_text (cell ∷ []) = codes " over cell " then decimal cell
over_cells_text (cell ∷ next ∷ cells) = codes " over cells " then comma_separated_text (map decimal (cell ∷ next ∷ cells))

-- an item whose first word stands at the position, with so many cells before it
abbrev pub item_text : Names → ℕ → ℕ → Item → List ℕ
item_text names position cell (unknown set) = codes "word " then decimal position then codes ": cell " then decimal cell then codes " is unknown" then of_classes_text names set
item_text names position cell (term code cells) = codes "word " then decimal position then codes ": cell " then decimal cell then codes " is " then symbol_text names code then over_cells_text cells
item_text names position cell (link left right) = codes "word " then decimal position then codes ": cells " then decimal left then codes " and " then decimal right then codes " are linked"
