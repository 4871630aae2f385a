-- What each call of a workspace answers in a state, and the state that it leaves. Assumes nothing.
use Rattle.std.specs.Prelude.{◌≡◌, ℕ, ◌+◌, ◌<◌, ◌≤◌, true, false, List, [], ◌∷◌, ◌++◌, length, drop, Ok, Err, Result, ◌≢◌}
use Rattle.theory.specs.Meaning.{Meaning, Admits}
use Rattle.theory.specs.Types.{Tree}
use Rattle.theory.specs.States.{Cell, unknown, term, State, Standing, with_cell, with_equation}
use Rattle.theory.specs.Assignments.{AssignsUnclassed, Assigns}
use Rattle.theory.specs.Listings.{Listing}
use Rattle.workspace.specs.declared.fault.Fault.{Fault}
use Rattle.workspace.specs.declared.fault.Fault.TheVariants.{Full, NoCode, NoSuchCode, WrongCount, NoSuchCell, NoRoom, NoTypes, NoClasses}

-- a workspace holds at most this many cells
abbrev pub most_cells : ℕ
most_cells = 2048

-- and this many places in all its terms
abbrev pub most_places : ℕ
most_places = 4096

abbrev pub places_of : Cell → ℕ
places_of (unknown set) = 0
places_of (term code places) = length places

abbrev pub places_in : List Cell → ℕ
places_in [] = 0
places_in (c ∷ cs) = places_of c + places_in cs

-- a cell stands if its number is below how many there are
abbrev pub Stands : State → ℕ → Type 0
Stands s cell = cell < length s.cells

-- the first of the cells that does not stand
pub record FirstMissing (s : State) (cells : List ℕ) (cell : ℕ) : Type 0 where
  pub before : List ℕ
  pub after : List ℕ
  pub split : cells ≡ before ++ (cell ∷ after)
  pub standing : Standing s before
  pub missing : length s.cells ≤ cell

-- some known code is admitted by every class of the set
abbrev pub HasCode : Meaning → ℕ → Type 0
HasCode m set = (c : ℕ) × (m.known c ≡ true) × Admits m set c

-- the state has no assignment with the classes read as empty
abbrev pub NoneUnclassed : Meaning → State → Type 0
NoneUnclassed m s = (type_of : ℕ → Tree) → AssignsUnclassed m s type_of → ⊥

-- the state has no assignment
abbrev pub NoneClassed : Meaning → State → Type 0
NoneClassed m s = (type_of : ℕ → Tree) → Assigns m s type_of → ⊥

-- unknown, with a set of classes, makes a cell; 1, then 2
pub data UnknownCall (m : Meaning) (s : State) (set : ℕ) : Result ℕ Fault → State → Type 0 where
  unknown_full : most_cells ≤ length s.cells → UnknownCall m s set (Err Full) s
  unknown_no_code : length s.cells < most_cells → (HasCode m set → ⊥) → UnknownCall m s set (Err (NoCode set)) s
  unknown_made : length s.cells < most_cells → HasCode m set → UnknownCall m s set (Ok (length s.cells)) (with_cell s (unknown set))

-- the term and its places have room
pub record Room (s : State) (cells : List ℕ) : Type 0 where
  pub for_cell : length s.cells < most_cells
  pub for_places : places_in s.cells + length cells ≤ most_places

-- term, with a code and the cells at its places, makes a cell; 3, 4, 5, 1
pub data TermCall (m : Meaning) (s : State) (code : ℕ) (cells : List ℕ) : Result ℕ Fault → State → Type 0 where
  term_no_code : m.known code ≡ false → TermCall m s code cells (Err (NoSuchCode code)) s
  term_wrong_count : m.known code ≡ true → (length cells ≢ m.places code) → TermCall m s code cells (Err (WrongCount code (length cells))) s
  term_no_cell : m.known code ≡ true → length cells ≡ m.places code → (cell : ℕ) → FirstMissing s cells cell → TermCall m s code cells (Err (NoSuchCell cell)) s
  term_full : m.known code ≡ true → length cells ≡ m.places code → Standing s cells → (Room s cells → ⊥) → TermCall m s code cells (Err Full) s
  term_made : m.known code ≡ true → length cells ≡ m.places code → Standing s cells → Room s cells →
      TermCall m s code cells (Ok (length s.cells)) (with_cell s (term code cells))

-- join, with two cells, accepts their equation; 5, then 7 or 8
pub data JoinCall (m : Meaning) (s : State) (left right : ℕ) : Result (Unit {0}) Fault → State → Type 0 where
  join_no_cell : (cell : ℕ) → FirstMissing s (left ∷ right ∷ []) cell → JoinCall m s left right (Err (NoSuchCell cell)) s
  join_no_types : Stands s left → Stands s right → NoneUnclassed m (with_equation s left right) → JoinCall m s left right (Err (NoTypes left right)) s
  join_no_classes : Stands s left → Stands s right → (type_of : ℕ → Tree) → AssignsUnclassed m (with_equation s left right) type_of → NoneClassed m (with_equation s left right) →
      JoinCall m s left right (Err (NoClasses left right)) s
  join_accepted : Stands s left → Stands s right → (type_of : ℕ → Tree) → Assigns m (with_equation s left right) type_of → JoinCall m s left right (Ok tt) (with_equation s left right)

-- show, with a list of cells, writes their listing to the front of the buffer; 5, 6. The state stays.
pub data ShowCall (m : Meaning) (s : State) (cells buffer : List ℕ) : Result ℕ Fault → (after : List ℕ) → Type 0 where
  show_no_cell : (cell : ℕ) → FirstMissing s cells cell → ShowCall m s cells buffer (Err (NoSuchCell cell)) buffer
  show_no_room : Standing s cells → (words : List ℕ) → Listing m s cells words → length buffer < length words → ShowCall m s cells buffer (Err NoRoom) buffer
  show_written : Standing s cells → (words : List ℕ) → Listing m s cells words → length words ≤ length buffer →
      ShowCall m s cells buffer (Ok (length words)) (words ++ drop (length words) buffer)
