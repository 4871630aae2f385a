-- Between two starts the walk stands, with nothing on its stack.
use Rattle.std.proofs.Common.{◌≡◌, length, slice_index_or, None}
use Rattle.theory.specs.Walks.{bottom}
use Rattle.walk.specs.Progress.{stack_of}
use Rattle.walk.specs.Rows.{row_edges}
use Rattle.walk.specs.Stands.{Stands}
use Rattle.walk.proofs.tests.walk_all.Given as goal

abbrev pub invariant-loop-start : goal.invariant-loop-start
invariant-loop-start l = Stands (λ x. row_edges (length l.rows) (slice_index_or l.rows x (None, None))) (length l.rows) l.walk × (stack_of l.walk ≡ bottom)
