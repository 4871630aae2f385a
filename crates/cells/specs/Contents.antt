-- What a store of cells holds. Assumes nothing.
use Rattle.std.specs.Prelude.{ℕ, List}
use Rattle.std.specs.List.{slice_index_or}
use Rattle.theory.specs.States.{Cell}
use Rattle.cells.specs.Layout.{cells_in, plain_in}
use Rattle.cells.specs.declared.storage.Entry.TheVariants.{Unknown}
use Rattle.cells.specs.declared.storage.Cells.{Cells}

-- the cells, in their order
unfoldable pub cells_of : Cells → List Cell
cells_of c = cells_in c.entries c.places c.count

-- the plain code that the term i counts by; of an unknown it means nothing
unfoldable pub plain_of : Cells → ℕ → ℕ
plain_of c i = plain_in (slice_index_or c.entries i (Unknown 0))
