-- The graph of the classes of cells: which classes the shape of a class names. Assumes nothing.
use Rattle.std.specs.Prelude.{ℕ, List, [], map}
use Rattle.theory.specs.Certificates.{Shape, no_term, over}

-- The cells that the shape of a class names.
abbrev pub parts_of : Shape → List ℕ
parts_of no_term = []
parts_of (over d qs) = qs

-- The graph of the classes of cells: an edge leads to the class of each cell that the shape names.
abbrev pub class_edges : (ℕ → ℕ) → (ℕ → Shape) → ℕ → List ℕ
class_edges label shape r = map label (parts_of (shape r))
