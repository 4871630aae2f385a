-- The edges of a graph that is given by rows of two places. Assumes nothing.
use Rattle.std.specs.Prelude.{ℕ, List, [], ◌∷◌, ◌++◌, Option, Some, None, if◌then◌else◌, nat_lt}

-- the edge of a place, if that leads to one of n nodes
abbrev pub place_edge : ℕ → Option ℕ → List ℕ
place_edge n None = []
place_edge n (Some y) = if nat_lt y n then y ∷ [] else []

-- the edges of a row, in its order
abbrev pub row_edges : ℕ → Option ℕ × Option ℕ → List ℕ
row_edges n row = place_edge n row.0 ++ place_edge n row.1
