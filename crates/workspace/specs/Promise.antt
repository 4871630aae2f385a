-- What holds of every state that calls lead to from an opening. Assumes nothing.
use Rattle.std.specs.Prelude.{◌≡◌, ℕ, ◌<◌, List, Err, Result}
use Rattle.theory.specs.Meaning.{Meaning, Lawful, Agree}
use Rattle.theory.specs.Types.{Tree, Trees, types}
use Rattle.theory.specs.States.{State, Standing, empty_state, with_equation}
use Rattle.theory.specs.Assignments.{Assigns}
use Rattle.theory.specs.Listings.{Listing}
use Rattle.theory.specs.Fillings.{Fills}
use Rattle.theory.specs.SameEquations.{SameEquations}
use Rattle.workspace.specs.declared.fault.Fault.{Fault}
use Rattle.workspace.specs.declared.fault.Fault.TheVariants.{NoTypes, NoClasses}
use Rattle.workspace.specs.Calls.{UnknownCall, TermCall, JoinCall, ShowCall, Stands, NoneClassed}

-- The states that calls lead to from an opening: whatever they answer, and in whatever order. Show leaves the state as it is.
pub data Reached (m : Meaning) : State → Type 0 where
  opened : Reached m empty_state
  after_unknown : {s t : State} {r : Result ℕ Fault} (set : ℕ) → set < 256 → Reached m s → UnknownCall m s set r t → Reached m t
  after_term : {s t : State} {r : Result ℕ Fault} (code : ℕ) (cells : List ℕ) → Reached m s → TermCall m s code cells r t → Reached m t
  after_join : {s t : State} {r : Result (Unit {0}) Fault} (left right : ℕ) → Reached m s → JoinCall m s left right r t → Reached m t

-- Two answers, each with what it leaves, are one.
pub record Same {A B : Type 0} (r q : A) (t u : B) : Type 0 where
  pub answer : r ≡ q
  pub left : t ≡ u

-- In the state each call has an answer, and only one.
pub record Determined (m : Meaning) (s : State) : Type 0 where
  pub unknown_some : (set : ℕ) → (r : Result ℕ Fault) × (t : State) × UnknownCall m s set r t
  pub unknown_one : (set : ℕ) (r q : Result ℕ Fault) (t u : State) → UnknownCall m s set r t → UnknownCall m s set q u → Same r q t u
  pub term_some : (code : ℕ) (cells : List ℕ) → (r : Result ℕ Fault) × (t : State) × TermCall m s code cells r t
  pub term_one : (code : ℕ) (cells : List ℕ) (r q : Result ℕ Fault) (t u : State) → TermCall m s code cells r t → TermCall m s code cells q u → Same r q t u
  pub join_some : (left right : ℕ) → (r : Result (Unit {0}) Fault) × (t : State) × JoinCall m s left right r t
  pub join_one : (left right : ℕ) (r q : Result (Unit {0}) Fault) (t u : State) → JoinCall m s left right r t → JoinCall m s left right q u → Same r q t u
  pub show_some : (cells buffer : List ℕ) → (r : Result ℕ Fault) × (after : List ℕ) × ShowCall m s cells buffer r after
  pub show_one : (cells buffer : List ℕ) (r q : Result ℕ Fault) (after after' : List ℕ) → ShowCall m s cells buffer r after → ShowCall m s cells buffer q after' →
      Same r q after after'

abbrev pub CallsHaveOneAnswer : Type 0
CallsHaveOneAnswer = (m : Meaning) → Lawful m → (s : State) → Reached m s → Determined m s

-- The join is refused with 7 or 8.
pub data RefusedForTypes (left right : ℕ) : Result (Unit {0}) Fault → Type 0 where
  with_seven : RefusedForTypes left right (Err (NoTypes left right))
  with_eight : RefusedForTypes left right (Err (NoClasses left right))

-- What is promised of a state.
pub record Promise (m : Meaning) (s : State) : Type 0 where
  -- there is an assignment
  pub assigned : (type_of : ℕ → Tree) × Assigns m s type_of
  -- the next join of cells that stand is refused with 7 or 8 exactly when its equation would leave none
  pub refused_if_none : (left right : ℕ) → Stands s left → Stands s right → (r : Result (Unit {0}) Fault) (t : State) → JoinCall m s left right r t →
      NoneClassed m (with_equation s left right) → RefusedForTypes left right r
  pub none_if_refused : (left right : ℕ) (r : Result (Unit {0}) Fault) (t : State) → JoinCall m s left right r t → RefusedForTypes left right r →
      NoneClassed m (with_equation s left right)
  -- for each list of cells that show writes, the rows of types that assignments give those cells are exactly the fillings of the written words
  pub rows_are_fillings : (cells words : List ℕ) → Standing s cells → Listing m s cells words → (type_of : ℕ → Tree) → Assigns m s type_of →
      (filling : ℕ → Tree) × Fills m filling words (types type_of cells)
  pub fillings_are_rows : (cells words : List ℕ) → Standing s cells → Listing m s cells words → (filling : ℕ → Tree) (row : Trees) → Fills m filling words row →
      (type_of : ℕ → Tree) × Assigns m s type_of × (types type_of cells ≡ row)
  -- over a lawful meaning that agrees, whatever calls led to a state with the same cells in order and the same accepted equations, show of any list into equal
  -- buffers gives the same answer or fault, and leaves equal buffers
  pub shows_alike : (n : Meaning) (u : State) → Lawful n → Agree m n → Reached n u → SameEquations s u → (cells buffer : List ℕ) (r q : Result ℕ Fault) (after after' : List ℕ) →
      ShowCall m s cells buffer r after → ShowCall n u cells buffer q after' → Same r q after after'

abbrev pub ReachedStatesKeepThePromise : Type 0
ReachedStatesKeepThePromise = (m : Meaning) → Lawful m → (s : State) → Reached m s → Promise m s
