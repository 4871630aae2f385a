-- How many cells have another parent, when one cell gets another parent or its own back. Assumes nothing.
use Rattle.std.proofs.Common.{◌≡◌, ℕ, zero, suc, ◌+◌, ◌<◌, ◌≤◌, refl, arith}
use Rattle.std.proofs.lemmas.Bool.Decides.{nat_tests}
use Rattle.classes.specs.Forests.{lowered}

pub lowered_own : (parent : ℕ → ℕ) (n : ℕ) → parent n ≡ n → lowered parent (suc n) ≡ lowered parent n
unfolding lowered
lowered_own parent n e = grind (arith, nat_tests)

pub lowered_same : (parent parent' : ℕ → ℕ) (n : ℕ) → ((i : ℕ) → i < n → parent' i ≡ parent i) → lowered parent' n ≡ lowered parent n
unfolding lowered
lowered_same parent parent' zero same = refl
lowered_same parent parent' (suc n) same = grind (arith, nat_tests, same n (omega arith), lowered_same parent parent' n (λ i h. same i (omega arith)))

-- the cell x is its own parent in one, and not in the other
pub lowered_one : (parent parent' : ℕ → ℕ) (x : ℕ) → parent x ≡ x → (parent' x ≡ x → ⊥)
    → ((i : ℕ) → (i ≡ x → ⊥) → parent' i ≡ parent i) → (n : ℕ) → x < n → lowered parent' n ≡ lowered parent n + 1
unfolding lowered
lowered_one parent parent' x own other rest zero h = absurd (omega arith)
lowered_one parent parent' x own other rest (suc n) h =
    grind (arith, nat_tests, rest n, lowered_one parent parent' x own other rest n, lowered_same parent parent' n)

pub lowered_most : (parent : ℕ → ℕ) (n : ℕ) → lowered parent n ≤ n
unfolding lowered
lowered_most parent zero = grind arith
lowered_most parent (suc n) = grind (arith, nat_tests, lowered_most parent n)

-- fewer than all, where a cell is its own parent
pub lowered_fewer : (parent : ℕ → ℕ) (x : ℕ) → parent x ≡ x → (n : ℕ) → x < n → lowered parent n < n
unfolding lowered
lowered_fewer parent x own zero h = absurd (omega arith)
lowered_fewer parent x own (suc n) h = grind (arith, nat_tests, lowered_most parent n, lowered_fewer parent x own n)
