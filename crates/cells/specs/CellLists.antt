-- Lists of cells: what stands at a number, how many places there are, which numbers stand, what holds of each cell of a store. Assumes nothing.
use Rattle.std.specs.Prelude.{◌≡◌, ℕ, ◌<◌, ◌≤◌, List, [], ◌∷◌, ◌++◌, All, length, sum_by, Some, None, Option}
use Rattle.std.specs.List.{slice_get}
use Rattle.std.specs.Option.{option_map_or}
use Rattle.theory.specs.States.{Cell, unknown, term}

-- the cells in the places of a term; an unknown has none
abbrev pub places_of : Cell → List ℕ
places_of (unknown set) = []
places_of (term code ps) = ps

-- the code of a term; of an unknown it means nothing
abbrev pub code_of : Cell → ℕ
code_of (unknown set) = 0
code_of (term code ps) = code

-- the set of an unknown; of a term it means nothing
abbrev pub set_of : Cell → ℕ
set_of (unknown set) = set
set_of (term code ps) = 0

-- how many places the terms have together
abbrev pub places_in : List Cell → ℕ
places_in cells = sum_by (λ c. length (places_of c)) cells

-- the cells in the places of cell i
abbrev pub places_at : List Cell → ℕ → List ℕ
places_at cells i = option_map_or places_of (slice_get cells i) []

-- the code of cell i
abbrev pub code_at : List Cell → ℕ → ℕ
code_at cells i = option_map_or code_of (slice_get cells i) 0

-- cell i is a term
abbrev pub IsTerm : List Cell → ℕ → Type 0
IsTerm cells i = slice_get cells i ≡ Some (term (code_at cells i) (places_at cells i))

-- each of the numbers is that of a cell
abbrev pub AllStand : List Cell → List ℕ → Type 0
AllStand cells numbers = (k c : ℕ) → slice_get numbers k ≡ Some c → c < length cells

-- c is the first of the numbers that is not that of a cell
pub record Missing (cells : List Cell) (numbers : List ℕ) (c : ℕ) : Type 0 where
  pub before : List ℕ
  pub after : List ℕ
  pub split : numbers ≡ before ++ (c ∷ after)
  pub stand : AllStand cells before
  pub missing : length cells ≤ c

-- the first of the numbers that is not that of a cell, if one is not
abbrev pub FirstMissing : List Cell → List ℕ → Option ℕ → Type 0
FirstMissing cells numbers None = AllStand cells numbers
FirstMissing cells numbers (Some c) = Missing cells numbers c

-- what holds of the cell i of a store
pub record IsSound (i : ℕ) (c : Cell) : Type 0 where
  -- the set of an unknown has 8 bits
  pub set : set_of c < 256
  -- the code of a term is below 2 ^ 24
  pub code : code_of c < 16777216
  -- it has at most 9 places
  pub few : length (places_of c) ≤ 9
  -- and the cells in them are lower than the term
  pub lower : All (λ p. p < i) (places_of c)

-- each cell is sound where it stands
abbrev pub AllSound : List Cell → Type 0
AllSound cells = (i : ℕ) (c : Cell) → slice_get cells i ≡ Some c → IsSound i c
