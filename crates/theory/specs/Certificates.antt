-- Certificates: what shows that a state has assignments, class of cells by class of cells. Assumes nothing.
use Rattle.std.specs.Prelude.{◌≡◌, ℕ, ◌<◌, true, List, [], ◌∷◌, map, length, Some, ◌≢◌}
use Rattle.std.specs.List.{slice_get}
use Rattle.theory.specs.Meaning.{Meaning, Admits, layered_by}
use Rattle.theory.specs.Types.{Tree}
use Rattle.theory.specs.States.{State, Unknown, Term, Equation}
use Rattle.theory.specs.Assignments.{AssignsUnclassed}
use Rattle.theory.specs.Joined.{Joined}
use Rattle.theory.specs.ListLike.{ListLike}

-- A label for each cell parts the cells into classes: the cells of one label. A class of cells goes by its label.

-- The shape of a class: it has no term, or its terms are this plain code over these cells. A Pair whose second place is in its own class
-- has the shape of a List over its first place.
pub data Shape : Type 0 where
  no_term : Shape
  over : (code : ℕ) (parts : List ℕ) → Shape

-- A term of the code c over `ps`, in the class r, is held to the shape d over `qs`.
pub data Held (m : Meaning) (label : ℕ → ℕ) (r c : ℕ) (ps : List ℕ) (d : ℕ) (qs : List ℕ) : Type 0 where
  -- it has that code, and its places are in the classes of `qs`
  same_code : m.plain c ≡ d → map label ps ≡ map label qs → Held m label r c ps d qs
  -- it is a Pair whose second place is in its own class, and the shape is List over its first place
  looping_pair : (first tail element : ℕ) → m.layering ≡ layered_by (m.plain c) d → ps ≡ first ∷ tail ∷ [] → qs ≡ element ∷ [] →
      label first ≡ label element → label tail ≡ r → Held m label r c ps d qs

-- The class r has a shape, and the term is held to it.
pub record TermHeld (m : Meaning) (label : ℕ → ℕ) (shape : ℕ → Shape) (r c : ℕ) (ps : List ℕ) : Type 0 where
  pub code : ℕ
  pub parts : List ℕ
  pub shape_is : shape r ≡ over code parts
  pub held : Held m label r c ps code parts

-- A rank falls from each class to the classes of the cells that its shape names.
abbrev pub Falling : (ℕ → ℕ) → (ℕ → Shape) → (ℕ → ℕ) → Type 0
Falling label shape rank = (r d : ℕ) (qs : List ℕ) → shape r ≡ over d qs → (k q : ℕ) → slice_get qs k ≡ Some q → rank (label q) < rank r

-- Labels, ranks and shapes that are consistent with a state. That there is an assignment with the classes read as empty follows of this alone.
pub record Consistent (m : Meaning) (s : State) (label rank : ℕ → ℕ) (shape : ℕ → Shape) : Type 0 where
  -- a label is its own label
  pub label_fixed : (i : ℕ) → label (label i) ≡ label i
  -- the cells of an equation are in one class
  pub equations : (a b : ℕ) → Equation s a b → label a ≡ label b
  -- each term is held to the shape of its class
  pub terms_held : (i c : ℕ) (ps : List ℕ) → Term s i c ps → TermHeld m label shape (label i) c ps
  pub falling : Falling label shape rank

-- The shape d over `qs` of the class r is that of one of its terms, or of the List that a Pair of it is.
pub data Backed (m : Meaning) (s : State) (r d : ℕ) (qs : List ℕ) : Type 0 where
  by_term : (j c : ℕ) → Joined m s r j → Term s j c qs → m.plain c ≡ d → Backed m s r d qs
  by_list_like : (element : ℕ) → ListLike m s r d element → qs ≡ element ∷ [] → Backed m s r d qs

-- A certificate: labels, ranks and shapes that are consistent with a state, and that say no more than the rules of joining do.
pub record Certificate (m : Meaning) (s : State) (label rank : ℕ → ℕ) (shape : ℕ → Shape) : Type 0 where
  pub consistent : Consistent m s label rank shape
  -- each cell is joined to its label
  pub label_joined : (i : ℕ) → Joined m s i (label i)
  pub shape_backed : (r d : ℕ) (qs : List ℕ) → shape r ≡ over d qs → Backed m s r d qs
  -- the label of a cell that stands, stands
  pub label_stands : (i : ℕ) → i < length s.cells → label i < length s.cells

abbrev pub HasCertificate : Meaning → State → Type 0
HasCertificate m s = (label : ℕ → ℕ) × (rank : ℕ → ℕ) × (shape : ℕ → Shape) × Certificate m s label rank shape

-- The class r has no term.
abbrev pub Termless : State → (ℕ → ℕ) → ℕ → Type 0
Termless s label r = (i c : ℕ) (ps : List ℕ) → Term s i c ps → label i ≢ r

-- The classes of the unknowns of the class r of cells are met: they admit the codes of its terms, or, where it has none, they all admit
-- one known code.
pub record ClassAdmitted (m : Meaning) (s : State) (label : ℕ → ℕ) (r : ℕ) : Type 0 where
  pub by_terms : (i set : ℕ) → Unknown s i set → label i ≡ r → (j c : ℕ) (ps : List ℕ) → Term s j c ps → label j ≡ r → Admits m set (m.plain c)
  pub code : ℕ
  pub code_known : m.known code ≡ true
  pub by_code : Termless s label r → (i set : ℕ) → Unknown s i set → label i ≡ r → Admits m set code

-- They are met in every class of cells. With a certificate this shows that there is an assignment.
abbrev pub ClassesAdmitted : Meaning → State → (ℕ → ℕ) → Type 0
ClassesAdmitted m s label = (r : ℕ) → ClassAdmitted m s label r

-- An assignment, with the classes read as empty, that gives the cells of a class one type, and a class without a term the chosen one.
pub record Extends (m : Meaning) (s : State) (label : ℕ → ℕ) (choice type_of : ℕ → Tree) : Type 0 where
  pub assigns : AssignsUnclassed m s type_of
  pub by_label : (i : ℕ) → type_of i ≡ type_of (label i)
  pub chosen : (r : ℕ) → label r ≡ r → Termless s label r → type_of r ≡ choice r
