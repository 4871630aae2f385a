-- States with the same cells in order and the same equations. Assumes nothing.
use Rattle.std.specs.Prelude.{◌≡◌, ℕ, ◌⊎◌}
use Rattle.theory.specs.States.{State, Equation}

-- Each equation of s stands in s', in either orientation.
abbrev pub EquationsWithin : State → State → Type 0
EquationsWithin s s' = (a b : ℕ) → Equation s a b → Equation s' a b ⊎ Equation s' b a

-- The same cells in order, and the same equations, in whatever order, however often and either way round.
pub record SameEquations (s s' : State) : Type 0 where
  pub cells : s.cells ≡ s'.cells
  pub here : EquationsWithin s s'
  pub there : EquationsWithin s' s
