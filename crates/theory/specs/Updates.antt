-- Labels and shapes with one class changed. Assumes nothing.
use Rattle.std.specs.Prelude.{ℕ}
use Rattle.std.proofs.Math.Decide.{ℕ_discrete}
use Rattle.theory.specs.Meaning.{Meaning}
use Rattle.theory.specs.IfSo.{if_so}
use Rattle.theory.specs.States.{Cell, unknown, term}
use Rattle.theory.specs.Certificates.{Shape, no_term, over}

-- the label x becomes y, and any other stays
unfoldable pub sent : ℕ → ℕ → ℕ → ℕ
sent x y i = if_so (ℕ_discrete i x) y i

-- the class x has a new shape, and any other keeps its own
unfoldable pub replaced : (ℕ → Shape) → ℕ → Shape → ℕ → Shape
replaced f x new i = if_so (ℕ_discrete i x) new (f i)

-- the shape of a class that has one cell
abbrev pub cell_shape : Meaning → Cell → Shape
cell_shape m (unknown set) = no_term
cell_shape m (term c ps) = over (m.plain c) ps
