-- The measure of the walk falls with each move. Assumes nothing.
use Rattle.std.proofs.Common.{ℕ, ◌+◌, mul-le-mul_left, arith}
use Rattle.theory.specs.Walks.{Stack, WalkMeasureLaws}

pub walk_measure_falls : (most x k : ℕ) (below : Stack) → WalkMeasureLaws most x k below
walk_measure_falls most x k below = record {
  pops = λ untouched. omega arith;
  advances = λ untouched k<. omega arith;
  pushes = λ y fewer untouched less. let h = mul-le-mul_left (most + 2) less in omega arith;
}
