-- List-like cells: those whose type is List over the type of another cell, by what they are joined to. Assumes nothing.
use Rattle.std.specs.Prelude.{◌≡◌, ℕ, [], ◌∷◌}
use Rattle.theory.specs.Meaning.{Meaning, layered_by}
use Rattle.theory.specs.States.{State, Term}
use Rattle.theory.specs.Joined.{Joined}

-- Cell i is List, of the code `list`, over `element`: it is joined to a List over `element`, or to a Pair whose first place is `element`
-- and whose second place is joined to it.
pub data ListLike (m : Meaning) (s : State) (i list element : ℕ) : Type 0 where
  joined_list : (j pair c : ℕ) → Joined m s i j → Term s j c (element ∷ []) → m.plain c ≡ list → m.layering ≡ layered_by pair list →
      ListLike m s i list element
  joined_loop : (j tail c : ℕ) → Joined m s i j → Term s j c (element ∷ tail ∷ []) → m.layering ≡ layered_by (m.plain c) list → Joined m s tail j →
      ListLike m s i list element
