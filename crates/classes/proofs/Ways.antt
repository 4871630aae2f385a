-- Every way up ends, at one cell, and a link moves that end. Assumes nothing.
use Rattle.std.proofs.Common.{◌≡◌, ℕ, zero, suc, ◌+◌, ◌<◌, ◌≤◌, ◌⊎◌, refl, arith}
use Rattle.std.proofs.lemmas.Bool.{cases_eq}
use Rattle.std.proofs.lemmas.Bool.Decides.{nat_tests}
use Rattle.theory.specs.Updates.{sent}
use Rattle.theory.proofs.Updates.{sent_hit, sent_miss}
use Rattle.classes.specs.Forests.{next_in, follow, label_in}

pub follow_last : (f : ℕ → ℕ) (k i : ℕ) → follow f (suc k) i ≡ f (follow f k i)
unfolding follow
follow_last f zero i = refl
follow_last f (suc k) i = follow_last f k (f i)

pub follow_still : (f : ℕ → ℕ) (k i : ℕ) → f i ≡ i → follow f k i ≡ i
unfolding follow
follow_still f zero i e = refl
follow_still f (suc k) i e = grind (arith, follow_still f k i)

pub follow_same : (f g : ℕ → ℕ) → ((i : ℕ) → g i ≡ f i) → (k i : ℕ) → follow g k i ≡ follow f k i
unfolding follow
follow_same f g same zero i = refl
follow_same f g same (suc k) i = grind (arith, same i, follow_same f g same k (f i))

pub follow_within : (f : ℕ → ℕ) (n : ℕ) → ((i : ℕ) → i < n → f i < n) → (k i : ℕ) → i < n → follow f k i < n
unfolding follow
follow_within f n inside zero i h = h
follow_within f n inside (suc k) i h = follow_within f n inside k (f i) (inside i h)

-- where each step but the last rises, and nothing rises over a bound, the way ends
pub follow_ends : (f time : ℕ → ℕ) (bound : ℕ) → ((i : ℕ) → time i ≤ bound) → ((i : ℕ) → (f i ≡ i) ⊎ (time i < time (f i)))
    → (k i : ℕ) → bound ≤ k + time i → f (follow f k i) ≡ follow f k i
unfolding follow
follow_ends f time bound most rises zero i h = grind (arith, most (f i), rises i)
follow_ends f time bound most rises (suc k) i h = grind (arith, rises i, follow_still f k i, follow_ends f time bound most rises k (f i))

-- x, where a way ended, has a step to y, where another did: the ways that ended at x end at y
pub follow_sent : (f g : ℕ → ℕ) (x y : ℕ) → (x ≡ y → ⊥) → f x ≡ x → f y ≡ y → g x ≡ y → ((i : ℕ) → (i ≡ x → ⊥) → g i ≡ f i)
    → (k i : ℕ) → f (follow f k i) ≡ follow f k i → follow g (suc k) i ≡ sent x y (follow f k i)
unfolding follow
follow_sent f g x y ne fx fy gx rest zero i e = grind (arith, cases_eq i x, rest i, sent_hit x y i, sent_miss x y i)
follow_sent f g x y ne fx fy gx rest (suc k) i e =
    grind (arith, cases_eq i x, rest i, rest y, follow_still g k y, follow_still f k x, sent_hit x y x, follow_sent f g x y ne fx fy gx rest k (f i))

pub next_cell : (parent : ℕ → ℕ) (count i : ℕ) → i < count → next_in parent count i ≡ parent i
unfolding next_in
next_cell parent count i h = grind (arith, nat_tests)

pub next_beyond : (parent : ℕ → ℕ) (count i : ℕ) → count ≤ i → next_in parent count i ≡ i
unfolding next_in
next_beyond parent count i h = grind (arith, nat_tests)

-- a cell that is its own parent is its own label
pub label_own : (parent : ℕ → ℕ) (count i : ℕ) → next_in parent count i ≡ i → label_in parent count i ≡ i
unfolding label_in
label_own parent count i e = follow_still (next_in parent count) 2048 i e

pub label_same : (parent parent' : ℕ → ℕ) (count count' : ℕ) → ((i : ℕ) → next_in parent' count' i ≡ next_in parent count i)
    → (i : ℕ) → label_in parent' count' i ≡ label_in parent count i
unfolding label_in
label_same parent parent' count count' same i = follow_same (next_in parent count) (next_in parent' count') same 2048 i
