-- What a store of cells says of its numbers and of each cell. Assumes nothing.
use Rattle.std.proofs.Common.{◌≡◌, ℕ, ◌<◌, ◌≤◌, length, get_or, take, Some, subst, arith, length-take, get_or-set_same, get_or-set_other}
use Rattle.std.specs.List.{slice_get}
use Rattle.std.proofs.lemmas.List.{length-map, get_or-take}
use Rattle.std.proofs.lemmas.Option.{slice_get-get_or, slice_get-map}
use Rattle.cells.specs.CellLists.{places_in, IsSound, AllSound}
use Rattle.cells.specs.Layout.{cell_in, end_of}
use Rattle.cells.specs.Contents.{cells_of}
use Rattle.cells.specs.declared.storage.Cells.{Cells}
use Rattle.cells.specs.declared.storage.Entry.TheVariants.{Unknown}

-- there are as many cells as entries in use
length_taken : (t : Cells) → length (cells_of t) ≡ length (take t.count t.entries)
unfolding cells_of
length_taken t = length-map (take t.count t.entries) (cell_in t.places)

-- and that is the count
pub count_is_length : (t : Cells) → length (cells_of t) ≡ t.count
count_is_length t = omega (arith, t.whole, t.few, length_taken t, length-take t.count t.entries)

pub at_most_2048_cells : (t : Cells) → length (cells_of t) ≤ 2048
at_most_2048_cells t = omega (arith, t.few, count_is_length t)

-- what is filled is the places of all cells together
pub filled_is_places : (t : Cells) → places_in (cells_of t) ≡ t.filled
unfolding cells_of
filled_is_places t = t.brim

pub at_most_4096_places : (t : Cells) → places_in (cells_of t) ≤ 4096
at_most_4096_places t = omega (arith, t.room, filled_is_places t)

-- each cell is sound where it stands
pub cells_are_sound : (t : Cells) → AllSound (cells_of t)
unfolding cells_of
cells_are_sound t = t.sound

-- the entry of a cell that stands is among the first
entry_taken : (t : Cells) (i : ℕ) → i < length (cells_of t) → get_or (take t.count t.entries) i (Unknown 0) ≡ get_or t.entries i (Unknown 0)
entry_taken t i h = get_or-take t.count t.entries i (Unknown 0) (omega (arith, length_taken t, length-take t.count t.entries))

-- and keeps the cell
pub entry_keeps_cell : (t : Cells) (i : ℕ) → i < length (cells_of t) → slice_get (cells_of t) i ≡ Some (cell_in t.places (get_or t.entries i (Unknown 0)))
unfolding cells_of
entry_keeps_cell t i h =
    let among = length_taken t in
    rw (slice_get-map (cell_in t.places) (take t.count t.entries) i, slice_get-get_or (take t.count t.entries) i (Unknown 0) (omega arith), entry_taken t i h)

-- and its places lie in what is filled
pub entry_ends : (t : Cells) (i : ℕ) → i < length (cells_of t) → end_of (get_or t.entries i (Unknown 0)) ≤ t.filled
entry_ends t i h = subst (λ e. end_of e ≤ t.filled) (entry_taken t i h) (t.within i (Unknown 0) (omega (arith, length_taken t)))

-- and the cell is sound
pub entry_is_sound : (t : Cells) (i : ℕ) → i < length (cells_of t) → IsSound i (cell_in t.places (get_or t.entries i (Unknown 0)))
entry_is_sound t i h = cells_are_sound t i _ (entry_keeps_cell t i h)

-- what the numbers and the entries of a store say of its cells, and which entries stay where one is written
pub ruleset held = (count_is_length, filled_is_places, entry_keeps_cell, entry_ends, get_or-set_same, get_or-set_other)
