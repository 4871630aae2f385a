-- What the labels and shapes of a certificate say of cells: whether they are joined, and how they are written. Assumes nothing.
use Rattle.std.specs.Prelude.{◌≡◌, ℕ, List, [], ◌∷◌, length, ◌≢◌}
use Rattle.theory.specs.Meaning.{Meaning, Lawful, layered_by}
use Rattle.theory.specs.States.{State, Term, Standing, Formed}
use Rattle.theory.specs.Joined.{Joined}
use Rattle.theory.specs.Codes.{CodesAgree}
use Rattle.theory.specs.ListLike.{ListLike}
use Rattle.theory.specs.Listings.{WithoutTerm}
use Rattle.theory.specs.Certificates.{Shape, no_term, over, Backed, Certificate}
use Rattle.theory.specs.Refusals.{Clash}

-- What stands behind a shape.
pub record BackingLaws (m : Meaning) (s : State) : Type 0 where
  -- it names as many cells as its code has places
  pub width : (r d : ℕ) (qs : List ℕ) → Backed m s r d qs → length qs ≡ m.places d
  -- and they stand
  pub stands : (r d : ℕ) (qs : List ℕ) → Backed m s r d qs → Standing s qs
  -- where the codes of two joined classes do not agree, there is a clash
  pub differ : (r r' d d' : ℕ) (qs qs' : List ℕ) → Joined m s r r' → Backed m s r d qs → Backed m s r' d' qs' → (CodesAgree m d d' → ⊥) → Clash m s

abbrev pub ShapesAreBacked : Type 0
ShapesAreBacked = (m : Meaning) (s : State) → Lawful m → Formed m s → BackingLaws m s

-- Cell i is joined to a term of the plain code d over `qs`, and is not list-like.
pub record TermLike (m : Meaning) (s : State) (i d : ℕ) (qs : List ℕ) : Type 0 where
  pub cell : ℕ
  pub code : ℕ
  pub joined : Joined m s i cell
  pub stands : Term s cell code qs
  pub plain_is : m.plain code ≡ d
  pub not_list_like : (list element : ℕ) → ListLike m s i list element → ⊥

-- Labels say which cells are joined, and the shape of its class says by which rule a cell is written.
pub record WritingLaws (m : Meaning) (s : State) (label : ℕ → ℕ) (shape : ℕ → Shape) : Type 0 where
  pub same_label : (a b : ℕ) → label a ≡ label b → Joined m s a b
  pub one_label : (a b : ℕ) → Joined m s a b → label a ≡ label b
  pub list_shape : (i pair list element : ℕ) → shape (label i) ≡ over list (element ∷ []) → m.layering ≡ layered_by pair list →
      ListLike m s i list element
  pub term_shape : (i d : ℕ) (qs : List ℕ) → shape (label i) ≡ over d qs → ((pair : ℕ) → m.layering ≢ layered_by pair d) → TermLike m s i d qs
  pub no_shape : (i : ℕ) → shape (label i) ≡ no_term → WithoutTerm m s i

abbrev pub ShapesSayHowCellsAreWritten : Type 0
ShapesSayHowCellsAreWritten = (m : Meaning) (s : State) (label rank : ℕ → ℕ) (shape : ℕ → Shape) → Lawful m → Certificate m s label rank shape →
    WritingLaws m s label shape
