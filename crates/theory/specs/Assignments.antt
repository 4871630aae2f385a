-- Assignments: a type for each cell of a state. Assumes nothing.
use Rattle.std.specs.Prelude.{◌≡◌, ℕ, ◌<◌, List, length}
use Rattle.theory.specs.Meaning.{Meaning, Admits}
use Rattle.theory.specs.Types.{Tree, IsType, build, types, top}
use Rattle.theory.specs.States.{State, Unknown, Term, Equation}

-- An assignment with the classes read as empty: each cell that stands has a type, a term has the type that its plain code makes of the
-- types of its places, and the two cells of an equation have one type.
pub record AssignsUnclassed (m : Meaning) (s : State) (type_of : ℕ → Tree) : Type 0 where
  pub cells : (i : ℕ) → i < length s.cells → IsType m (type_of i)
  pub terms : (i c : ℕ) (ps : List ℕ) → Term s i c ps → type_of i ≡ build m (m.plain c) (types type_of ps)
  pub equations : (a b : ℕ) → Equation s a b → type_of a ≡ type_of b

-- An assignment: moreover each class of an unknown admits the code at the top of its type.
pub record Assigns (m : Meaning) (s : State) (type_of : ℕ → Tree) : Type 0 where
  pub unclassed : AssignsUnclassed m s type_of
  pub classes : (i set : ℕ) → Unknown s i set → Admits m set (top (type_of i))
