-- Counting the numbers below a bound that pass a test. Assumes nothing.
use Rattle.std.specs.Prelude.{ℕ, zero, suc, ◌+◌}
use Rattle.theory.specs.IfSo.{if_so}

-- how many pass it
unfoldable pub count_below : {P : ℕ → Type 0} → ((i : ℕ) → Dec (P i)) → ℕ → ℕ
count_below test zero = 0
count_below test (suc n) = if_so (test n) 1 0 + count_below test n

-- the sum of a function's values below a bound
unfoldable pub sum_below : (ℕ → ℕ) → ℕ → ℕ
sum_below f zero = 0
sum_below f (suc n) = f n + sum_below f n
