-- The theorems of the solver, each carried by the contract of a function of its name. Assumes nothing.
use Rattle.std.specs.Prelude.{◌≡◌, ℕ, ◌<◌, true, List, length}
use Rattle.theory.specs.Meaning.{Meaning, Admits, Lawful, Agree}
use Rattle.theory.specs.Types.{Tree, Trees, types, IsType}
use Rattle.theory.specs.States.{State, Cell, unknown, term, Standing, Formed, FormedLaws, empty_state, with_equation, with_cell}
use Rattle.theory.specs.Assignments.{AssignsUnclassed, Assigns}
use Rattle.theory.specs.Joined.{Joined, JoinedLists}
use Rattle.theory.specs.Listings.{Listing}
use Rattle.theory.specs.Fillings.{Fills}
use Rattle.theory.specs.Certificates.{Shape, no_term, Consistent, Certificate, Termless, ClassesAdmitted, Extends}
use Rattle.theory.specs.SameEquations.{SameEquations}
use Rattle.theory.specs.Refusals.{Clash, Barred}
use Rattle.theory.specs.Verdicts.{Verdict}
use Rattle.theory.specs.Updates.{replaced, cell_shape}

-- The empty state is formed, and a state stays so where a formed cell or an equation of cells that stand is added.
abbrev pub StatesStayFormed : Type 0
StatesStayFormed = (m : Meaning) → FormedLaws m

-- Joined cells have one type under every assignment, even with the classes read as empty.
abbrev pub JoinedCellsHaveOneType : Type 0
JoinedCellsHaveOneType = (m : Meaning) (s : State) (type_of : ℕ → Tree) → Lawful m → AssignsUnclassed m s type_of → (a b : ℕ) → Joined m s a b →
    type_of a ≡ type_of b

-- Where labels are consistent with a state, every choice of types at the classes without a term extends to an assignment, with the classes read
-- as empty.
abbrev pub ChoiceExtendsToAssignment : Type 0
ChoiceExtendsToAssignment = (m : Meaning) (s : State) (label rank : ℕ → ℕ) (shape : ℕ → Shape) → Lawful m → Formed m s →
    Consistent m s label rank shape →
    (choice : ℕ → Tree) → ((r : ℕ) → IsType m (choice r)) → (type_of : ℕ → Tree) × Extends m s label choice type_of

-- And to no other: assignments that agree at the classes without a term agree.
abbrev pub ChoiceFixesAssignment : Type 0
ChoiceFixesAssignment = (m : Meaning) (s : State) (label rank : ℕ → ℕ) (shape : ℕ → Shape) → Lawful m → Certificate m s label rank shape →
    (type_of type_of' : ℕ → Tree) → AssignsUnclassed m s type_of → AssignsUnclassed m s type_of' →
    ((r : ℕ) → label r ≡ r → Termless s label r → type_of r ≡ type_of' r) → (i : ℕ) → type_of i ≡ type_of' i

-- A state that labels are consistent with has an assignment with the classes read as empty.
abbrev pub ConsistentStateHasUnclassedAssignment : Type 0
ConsistentStateHasUnclassedAssignment = (m : Meaning) (s : State) (label rank : ℕ → ℕ) (shape : ℕ → Shape) → Lawful m → Formed m s →
    Consistent m s label rank shape →
    (type_of : ℕ → Tree) × AssignsUnclassed m s type_of

-- Where labels are consistent with a state, joined cells have one label. With a certificate cells of one label are joined too, so the classes
-- are those of the joined relation.
abbrev pub JoinedCellsHaveOneLabel : Type 0
JoinedCellsHaveOneLabel = (m : Meaning) (s : State) (label rank : ℕ → ℕ) (shape : ℕ → Shape) → Lawful m → Consistent m s label rank shape →
    (a b : ℕ) → Joined m s a b → label a ≡ label b

-- A state with a certificate whose classes are met has an assignment.
abbrev pub CertifiedStateHasAssignment : Type 0
CertifiedStateHasAssignment = (m : Meaning) (s : State) (label rank : ℕ → ℕ) (shape : ℕ → Shape) → Lawful m → Formed m s →
    Certificate m s label rank shape → ClassesAdmitted m s label →
    (type_of : ℕ → Tree) × Assigns m s type_of

-- In a state that has an assignment, if only with the classes read as empty, lists of cells that are joined have one listing; so each list
-- has one.
abbrev pub ListingIsUnique : Type 0
ListingIsUnique = (m : Meaning) (s : State) (type_of : ℕ → Tree) → Lawful m → Formed m s → AssignsUnclassed m s type_of →
    (cells cells' words words' : List ℕ) →
    JoinedLists m s cells cells' → Listing m s cells words → Listing m s cells' words' → words ≡ words'

-- In a state with a certificate every list of cells has a listing.
abbrev pub ListingExists : Type 0
ListingExists = (m : Meaning) (s : State) (label rank : ℕ → ℕ) (shape : ℕ → Shape) → Lawful m → Formed m s → Certificate m s label rank shape →
    (cells : List ℕ) → (words : List ℕ) × Listing m s cells words

-- Whatever types an assignment gives a list of cells, some filling of its listing gives them.
abbrev pub RowsAreFillings : Type 0
RowsAreFillings = (m : Meaning) (s : State) → Lawful m → Formed m s → (cells words : List ℕ) → Standing s cells → Listing m s cells words →
    (type_of : ℕ → Tree) → Assigns m s type_of → (filling : ℕ → Tree) × Fills m filling words (types type_of cells)

-- And whatever a filling of its listing gives, some assignment gives the cells.
abbrev pub FillingsAreRows : Type 0
FillingsAreRows = (m : Meaning) (s : State) (label rank : ℕ → ℕ) (shape : ℕ → Shape) → Lawful m → Formed m s → Certificate m s label rank shape →
    ClassesAdmitted m s label →
    (cells words : List ℕ) → Standing s cells → Listing m s cells words →
    (filling : ℕ → Tree) (row : Trees) → Fills m filling words row → (type_of : ℕ → Tree) × Assigns m s type_of × (types type_of cells ≡ row)

-- States with the same cells and the same equations, over meanings that agree, join the same cells.
abbrev pub SameEquationsJoinTheSame : Type 0
SameEquationsJoinTheSame = (m n : Meaning) (s s' : State) → Agree m n → SameEquations s s' → (a b : ℕ) → Joined m s a b → Joined n s' a b

-- They have the same listings.
abbrev pub SameEquationsHaveSameListings : Type 0
SameEquationsHaveSameListings = (m n : Meaning) (s s' : State) → Agree m n → SameEquations s s' → (cells words : List ℕ) →
    Listing m s cells words → Listing n s' cells words

-- Two codes in one class, or a type inside itself, leave no assignment, even with the classes read as empty.
abbrev pub ClashLeavesNoAssignment : Type 0
ClashLeavesNoAssignment = (m : Meaning) (s : State) → Lawful m → Clash m s → (type_of : ℕ → Tree) → AssignsUnclassed m s type_of → ⊥

-- A class that does not admit the code of a term, or classes that no code has together, leave no assignment.
abbrev pub BarredLeavesNoAssignment : Type 0
BarredLeavesNoAssignment = (m : Meaning) (s : State) → Lawful m → Barred m s → (type_of : ℕ → Tree) → Assigns m s type_of → ⊥

-- Every state comes to a verdict.
abbrev pub EveryStateHasAVerdict : Type 0
EveryStateHasAVerdict = (m : Meaning) (s : State) → Lawful m → Formed m s → Verdict m s

-- From a certificate one equation more comes to a verdict.
abbrev pub NextEquationHasAVerdict : Type 0
NextEquationHasAVerdict = (m : Meaning) (s : State) (label rank : ℕ → ℕ) (shape : ℕ → Shape) → Lawful m → Formed m s →
    Certificate m s label rank shape →
    (a b : ℕ) → a < length s.cells → b < length s.cells → Verdict m (with_equation s a b)

-- The empty state has a certificate in which every cell is a class by itself, and its classes are met.
abbrev pub EmptyStateIsCertified : Type 0
EmptyStateIsCertified = (m : Meaning) → Lawful m →
    Certificate m empty_state (λ i. i) (λ i. 0) (λ i. no_term) × ClassesAdmitted m empty_state (λ i. i)

-- A certificate stays one where a cell is added: the new cell is a class by itself.
abbrev pub NewCellKeepsCertificate : Type 0
NewCellKeepsCertificate = (m : Meaning) (s : State) (c : Cell) (label rank : ℕ → ℕ) (shape : ℕ → Shape) → Lawful m → Formed m s →
    Formed m (with_cell s c) → Certificate m s label rank shape →
    (label (length s.cells) ≡ length s.cells) × ((rank' : ℕ → ℕ) × Certificate m (with_cell s c) label rank' (replaced shape (length s.cells) (cell_shape m c)))

-- The classes of a new cell are met: it is a term, or all its classes admit this known code.
abbrev pub CellAdmitted : Meaning → Cell → Type 0
CellAdmitted m (term c ps) = Unit {0}
CellAdmitted m (unknown set) = (c : ℕ) × (m.known c ≡ true) × Admits m set c

abbrev pub NewCellKeepsClasses : Type 0
NewCellKeepsClasses = (m : Meaning) (s : State) (c : Cell) (label rank : ℕ → ℕ) (shape : ℕ → Shape) → Lawful m → Formed m s →
    Formed m (with_cell s c) → Certificate m s label rank shape →
    ClassesAdmitted m s label → CellAdmitted m c → ClassesAdmitted m (with_cell s c) label
