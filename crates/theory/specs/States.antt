-- States: cells in order, and the equations that were accepted. Assumes nothing.
use Rattle.std.specs.Prelude.{◌≡◌, ℕ, ◌<◌, ◌≤◌, true, List, [], ◌∷◌, ◌++◌, length, Some}
use Rattle.std.specs.List.{slice_get}
use Rattle.theory.specs.Meaning.{Meaning}

-- A cell stands for a type. It is an unknown, with a set of classes that each admit its type, or a term: a code, and for each of the
-- code's places the cell that stands in it. A cell goes by its number, from 0 in the order of the cells.
pub data Cell : Type 0 where
  unknown : (set : ℕ) → Cell
  term : (code : ℕ) (places : List ℕ) → Cell

-- An equation is two cells that are to have one type.
pub record State : Type 0 where
  pub cells : List Cell
  pub equations : List (ℕ × ℕ)

-- cell i is an unknown with this set
abbrev pub Unknown : State → ℕ → ℕ → Type 0
Unknown s i set = slice_get s.cells i ≡ Some (unknown set)

-- cell i is a term of the code c with the cells `ps` in its places
abbrev pub Term : State → ℕ → ℕ → List ℕ → Type 0
Term s i c ps = slice_get s.cells i ≡ Some (term c ps)

-- the equation of a and b was accepted
abbrev pub Equation : State → ℕ → ℕ → Type 0
Equation s a b = (k : ℕ) × (slice_get s.equations k ≡ Some (a, b))

-- each of the cells stands in the state
abbrev pub Standing : State → List ℕ → Type 0
Standing s cells = (k c : ℕ) → slice_get cells k ≡ Some c → c < length s.cells

-- A state that calls can lead to.
pub record Formed (m : Meaning) (s : State) : Type 0 where
  -- the code of a term is known
  pub term_known : (i c : ℕ) (ps : List ℕ) → Term s i c ps → m.known c ≡ true
  -- a term has as many cells as its code has places
  pub term_places : (i c : ℕ) (ps : List ℕ) → Term s i c ps → length ps ≡ m.places c
  -- and they are lower than the term
  pub term_lower : (i c : ℕ) (ps : List ℕ) → Term s i c ps → (k p : ℕ) → slice_get ps k ≡ Some p → p < i
  -- the set of an unknown has 8 bits
  pub unknown_set : (i set : ℕ) → Unknown s i set → set < 256
  -- the cells of an equation stand
  pub equation_stands : (a b : ℕ) → Equation s a b → (a < length s.cells) × (b < length s.cells)
  -- the number of a cell has 16 bits
  pub few_cells : length s.cells ≤ 65536

-- the state with one equation more
abbrev pub with_equation : State → ℕ → ℕ → State
with_equation s a b = record { cells = s.cells; equations = (a, b) ∷ s.equations }

-- the state with one cell more
abbrev pub with_cell : State → Cell → State
with_cell s c = record { cells = s.cells ++ (c ∷ []); equations = s.equations }

-- the state that a workspace opens with
abbrev pub empty_state : State
empty_state = record { cells = []; equations = [] }

-- A cell that may be added to the state: an unknown with a set of 8 bits, or a term of a known code over as many cells that stand as it has
-- places.
abbrev pub CellFormed : Meaning → State → Cell → Type 0
CellFormed m s (unknown set) = set < 256
CellFormed m s (term c ps) = (m.known c ≡ true) × (length ps ≡ m.places c) × Standing s ps

-- States stay formed.
pub record FormedLaws (m : Meaning) : Type 0 where
  pub empty : Formed m empty_state
  pub cell : (s : State) (c : Cell) → Formed m s → length s.cells < 65536 → CellFormed m s c → Formed m (with_cell s c)
  pub equation : (s : State) (a b : ℕ) → Formed m s → a < length s.cells → b < length s.cells → Formed m (with_equation s a b)
