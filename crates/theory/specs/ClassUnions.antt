-- The classes of all the unknowns that are joined to a cell. Assumes nothing.
use Rattle.std.specs.Prelude.{ℕ, T}
use Rattle.theory.specs.Meaning.{Meaning, has}
use Rattle.theory.specs.States.{State, Unknown}
use Rattle.theory.specs.Joined.{Joined}

-- An unknown that is joined to cell i has class k.
pub record HasClass (m : Meaning) (s : State) (i k : ℕ) : Type 0 where
  pub cell : ℕ
  pub set : ℕ
  pub joined : Joined m s i cell
  pub stands : Unknown s cell set
  pub has_it : T (has set k)

-- The set has exactly the classes of the unknowns that are joined to cell i: it is the union of their sets.
pub record Union (m : Meaning) (s : State) (i set : ℕ) : Type 0 where
  pub gathers : (k : ℕ) → HasClass m s i k → T (has set k)
  pub only : (k : ℕ) → T (has set k) → HasClass m s i k
