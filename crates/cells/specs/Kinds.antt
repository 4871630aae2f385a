-- What is said of a cell by its kind. Assumes nothing.
use Rattle.std.specs.Prelude.{◌≡◌, ℕ, List, Some}
use Rattle.std.specs.List.{slice_get}
use Rattle.theory.specs.States.{Cell, unknown}
use Rattle.cells.specs.CellLists.{IsTerm}
use Rattle.cells.specs.declared.kind.Kind.{Kind}
use Rattle.cells.specs.declared.kind.Kind.TheVariants.{Unknown, Term}

-- cell i is an unknown with this set, or a term that counts by the plain code
abbrev pub KindAt : List Cell → (plain : ℕ) → ℕ → Kind → Type 0
KindAt cells plain i (Unknown set) = slice_get cells i ≡ Some (unknown set)
KindAt cells plain i (Term p) = (p ≡ plain) × IsTerm cells i
