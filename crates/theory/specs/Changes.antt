-- What a closure has changed, and that no more than that is to be looked at again. Assumes nothing.
use Rattle.std.specs.Prelude.{◌≡◌, ℕ, ◌⊎◌, List, [], ◌∷◌, ◌≢◌}
use Rattle.theory.specs.Meaning.{Meaning, Lawful}
use Rattle.theory.specs.States.{State}
use Rattle.theory.specs.Certificates.{Shape, over, Falling, ClassAdmitted, ClassesAdmitted}
use Rattle.theory.specs.ClassGraph.{class_edges}
use Rattle.theory.specs.Walks.{In, DoneInOrder}
use Rattle.theory.specs.Closures.{Closure, after_merge, after_reshape}

-- Whatever cell has a new label, that label is among `changed`, and so is whatever label has a new shape; and no class was split.
pub record Changed (label label' : ℕ → ℕ) (shape shape' : ℕ → Shape) (changed : List ℕ) : Type 0 where
  pub label_fixed : (i : ℕ) → label' (label' i) ≡ label' i
  pub relabelled : (q : ℕ) → (label' q ≡ label q) ⊎ In (label' q) changed
  pub reshaped : (r : ℕ) → label' r ≡ r → (shape' r ≡ shape r) ⊎ In r changed
  pub coarser : (a b : ℕ) → label a ≡ label b → label' a ≡ label' b

-- A merge changes the class that is left of the two, and a new shape its own class.
pub record ChangeLaws (label : ℕ → ℕ) (shape : ℕ → Shape) : Type 0 where
  pub starts : Changed label label shape shape []
  pub merges : (v : Closure) (changed : List ℕ) → Changed label v.label shape v.shape changed →
      (a b : ℕ) (rest : List (ℕ × ℕ)) (merged : Shape) (new : List (ℕ × ℕ)) → (v.label a ≢ v.label b) →
      Changed label (after_merge v a b rest merged new).label shape (after_merge v a b rest merged new).shape (v.label a ∷ changed)
  pub reshapes : (v : Closure) (changed : List ℕ) → Changed label v.label shape v.shape changed → (r : ℕ) (new : Shape) →
      Changed label (after_reshape v r new).label shape (after_reshape v r new).shape (r ∷ changed)

abbrev pub MovesChangeFew : Type 0
MovesChangeFew = (label : ℕ → ℕ) (shape : ℕ → Shape) → ((i : ℕ) → label (label i) ≡ label i) → ChangeLaws label shape

-- Of the changed classes only those count that are left: a label that is its own no more has no cells.

-- A walk that is done with the changed classes is enough: a new rank falls.
abbrev pub ChangedClassesHaveRanks : Type 0
ChangedClassesHaveRanks = (label label' rank : ℕ → ℕ) (shape shape' : ℕ → Shape) (changed done : List ℕ) → Falling label shape rank →
    Changed label label' shape shape' changed →
    ((r : ℕ) → In r changed → label' r ≡ r → In r done) → DoneInOrder (class_edges label' shape') done →
    (rank' : ℕ → ℕ) × Falling label' shape' rank'

-- The classes of unknowns are met everywhere, where they were and are in the changed classes of cells.
abbrev pub ChangedClassesAreAdmitted : Type 0
ChangedClassesAreAdmitted = (m : Meaning) (s : State) (label label' : ℕ → ℕ) (shape shape' : ℕ → Shape) (changed : List ℕ) →
    Lawful m → ClassesAdmitted m s label → Changed label label' shape shape' changed →
    ((r : ℕ) → In r changed → label' r ≡ r → ClassAdmitted m s label' r) → ClassesAdmitted m s label'

-- A Pair whose second place is in its own class stands only in a class that has changed.
abbrev pub LoopsAreInChangedClasses : Type 0
LoopsAreInChangedClasses = (label label' rank : ℕ → ℕ) (shape shape' : ℕ → Shape) (changed : List ℕ) → Falling label shape rank →
    Changed label label' shape shape' changed →
    (r pair first tail : ℕ) → shape' r ≡ over pair (first ∷ tail ∷ []) → label' tail ≡ r → In r changed
