-- When each cell was linked, over a trail that grows or shrinks by one link. Assumes nothing.
use Rattle.std.proofs.Common.{◌≡◌, ℕ, zero, suc, ◌<◌, ◌≤◌, ◌⊎◌, refl, arith}
use Rattle.std.proofs.lemmas.Bool.Decides.{nat_tests}
use Rattle.classes.specs.Forests.{time_in}

-- the k-th link tells the time of its cell
pub time_hit : (lower : ℕ → ℕ) (k i : ℕ) → lower k ≡ i → time_in lower (suc k) i ≡ k
unfolding time_in
time_hit lower k i e = grind (arith, nat_tests)

-- and of no other
pub time_miss : (lower : ℕ → ℕ) (k i : ℕ) → (lower k ≡ i → ⊥) → time_in lower (suc k) i ≡ time_in lower k i
unfolding time_in
time_miss lower k i n = grind (arith, nat_tests)

pub time_bounded : (lower : ℕ → ℕ) (links i : ℕ) → links ≤ 2048 → time_in lower links i ≤ 2048
unfolding time_in
time_bounded lower zero i h = grind arith
time_bounded lower (suc k) i h = grind (arith, nat_tests, time_bounded lower k i (omega arith))

pub time_same : (lower lower' : ℕ → ℕ) (links : ℕ) → ((k : ℕ) → k < links → lower' k ≡ lower k) → (i : ℕ) → time_in lower' links i ≡ time_in lower links i
unfolding time_in
time_same lower lower' zero same i = refl
time_same lower lower' (suc k) same i =
    grind (arith, nat_tests, same k (omega arith), time_same lower lower' k (λ j h. same j (omega arith)) i)

-- a number that the trail has no link of was never linked
pub time_never : (lower : ℕ → ℕ) (links i : ℕ) → ((k : ℕ) → k < links → lower k ≡ i → ⊥) → time_in lower links i ≡ 2048
unfolding time_in
time_never lower zero i never = refl
time_never lower (suc k) i never = grind (arith, nat_tests, never k (omega arith), time_never lower k i (λ j h. never j (omega arith)))

-- a time is the number of a link, or 2,048
pub time_range : (lower : ℕ → ℕ) (links i : ℕ) → (time_in lower links i < links) ⊎ (time_in lower links i ≡ 2048)
unfolding time_in
time_range lower zero i = grind arith
time_range lower (suc k) i = grind (arith, nat_tests, time_range lower k i)
