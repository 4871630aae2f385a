-- How entries hold cells. Assumes nothing.
use Rattle.std.specs.Prelude.{ℕ, ◌+◌, List, map, take, drop}
use Rattle.theory.specs.States.{Cell, unknown, term}
use Rattle.cells.specs.declared.storage.Entry.{Entry}
use Rattle.cells.specs.declared.storage.Entry.TheVariants.{Unknown, Term}

-- the cell that an entry keeps
abbrev pub cell_in : (places : List ℕ) → Entry → Cell
cell_in places (Unknown set) = unknown set
cell_in places (Term code plain start count) = term code (take count (drop start places))

-- the first n cells
abbrev pub cells_in : (entries : List Entry) (places : List ℕ) (n : ℕ) → List Cell
cells_in entries places n = map (cell_in places) (take n entries)

-- the plain code that a term counts by; of an unknown it means nothing
abbrev pub plain_in : Entry → ℕ
plain_in (Unknown set) = 0
plain_in (Term code plain start count) = plain

-- where the places of a term end; an unknown has none
abbrev pub end_of : Entry → ℕ
end_of (Unknown set) = 0
end_of (Term code plain start count) = start + count
