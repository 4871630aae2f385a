-- One set for each class of cells: the union of the sets of its unknowns, and what it decides. Assumes nothing.
use Rattle.std.specs.Prelude.{◌≡◌, ℕ, ◌<◌, true, T, List, length, ◌≢◌, bit_or}
use Rattle.theory.specs.Meaning.{Meaning, Lawful, Admits, has}
use Rattle.theory.specs.States.{State, Unknown, Formed}
use Rattle.theory.specs.ClassUnions.{Union}
use Rattle.theory.specs.Certificates.{Shape, no_term, over, Certificate, ClassAdmitted}
use Rattle.theory.specs.Refusals.{Barred}
use Rattle.theory.specs.Updates.{sent}

-- An unknown of the class r of cells has class k.
pub record ClassOfUnknown (s : State) (label : ℕ → ℕ) (r k : ℕ) : Type 0 where
  pub cell : ℕ
  pub set : ℕ
  pub stands : Unknown s cell set
  pub in_class : label cell ≡ r
  pub has_it : T (has set k)

-- The set has exactly the classes of the unknowns of the class r of cells.
pub record SetOfClass (s : State) (label : ℕ → ℕ) (r set : ℕ) : Type 0 where
  pub gathers : (k : ℕ) → ClassOfUnknown s label r k → T (has set k)
  pub only : (k : ℕ) → T (has set k) → ClassOfUnknown s label r k

-- With a certificate the set of a class is the one that its unknowns are written with, and decides whether their classes are met.
pub record SetLaws (m : Meaning) (s : State) (label : ℕ → ℕ) (shape : ℕ → Shape) : Type 0 where
  pub union : (i set : ℕ) → SetOfClass s label (label i) set → Union m s i set
  pub small : (r set : ℕ) → SetOfClass s label r set → set < 256
  -- a class of cells with a term
  pub met_by_shape : (r d set : ℕ) (qs : List ℕ) → shape r ≡ over d qs → SetOfClass s label r set → Admits m set d → ClassAdmitted m s label r
  pub barred_by_shape : (r d set : ℕ) (qs : List ℕ) → shape r ≡ over d qs → label r ≡ r → SetOfClass s label r set → (Admits m set d → ⊥) →
      Barred m s
  -- a class of cells without a term
  pub met_by_code : (r c set : ℕ) → shape r ≡ no_term → SetOfClass s label r set → m.known c ≡ true → Admits m set c → ClassAdmitted m s label r
  pub barred_without_code : (r set : ℕ) → r < length s.cells → label r ≡ r → SetOfClass s label r set →
      ((c : ℕ) → m.known c ≡ true → Admits m set c → ⊥) → Barred m s

abbrev pub SetsDecideClasses : Type 0
SetsDecideClasses = (m : Meaning) (s : State) (label rank : ℕ → ℕ) (shape : ℕ → Shape) → Lawful m → Formed m s → Certificate m s label rank shape →
    SetLaws m s label shape

-- Where the class y becomes part of the class x, its set joins that of x, and any other class keeps its own.
pub record SetMergeLaws (s : State) (label : ℕ → ℕ) (x y : ℕ) : Type 0 where
  pub merged : (one other : ℕ) → SetOfClass s label x one → SetOfClass s label y other →
      SetOfClass s (λ i. sent y x (label i)) x (bit_or one other)
  pub kept : (r set : ℕ) → (r ≢ x) → (r ≢ y) → SetOfClass s label r set → SetOfClass s (λ i. sent y x (label i)) r set

abbrev pub SetsMerge : Type 0
SetsMerge = (s : State) (label : ℕ → ℕ) (x y : ℕ) → SetMergeLaws s label x y
