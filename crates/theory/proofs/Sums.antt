-- Sums of a function's values below a bound, of which two change. Assumes nothing.
use Rattle.std.proofs.Common.{◌≡◌, ℕ, zero, suc, ◌+◌, ◌<◌, ◌≤◌, sym, refl, ap, arith}
use Rattle.std.proofs.Math.Decide.{ℕ_discrete}
use Rattle.theory.specs.IfSo.{if_so}
use Rattle.theory.specs.Counts.{sum_below}
use Rattle.theory.proofs.IfSo.{if_so_yes, if_so_no}

pub sum_below_le : (f g : ℕ → ℕ) → ((i : ℕ) → g i ≤ f i) → (n : ℕ) → sum_below g n ≤ sum_below f n
unfolding sum_below
sum_below_le f g h zero = omega arith
sum_below_le f g h (suc n) = let a = h n in let b = sum_below_le f g h n in omega arith

-- the function with 0 at a
without : ℕ → (ℕ → ℕ) → ℕ → ℕ
without a f i = if_so (ℕ_discrete i a) 0 (f i)

without_there : (a : ℕ) (f : ℕ → ℕ) (i : ℕ) → i ≡ a → without a f i ≡ 0
unfolding without
without_there a f i e = if_so_yes (ℕ_discrete i a) 0 (f i) e

without_elsewhere : (a : ℕ) (f : ℕ → ℕ) (i : ℕ) → (i ≡ a → ⊥) → without a f i ≡ f i
unfolding without
without_elsewhere a f i n = if_so_no (ℕ_discrete i a) 0 (f i) n

sum_without_above : (f : ℕ → ℕ) (a n : ℕ) → n ≤ a → sum_below (without a f) n ≡ sum_below f n
unfolding sum_below
sum_without_above f a zero h = refl
sum_without_above f a (suc n) h =
    let b = sum_without_above f a n (omega arith) in
    let c = without_elsewhere a f n (λ e. omega arith) in
    omega arith

-- one summand by itself
sum_at : (f : ℕ → ℕ) (a n : ℕ) → a < n → sum_below f n ≡ f a + sum_below (without a f) n
unfolding sum_below
sum_at f a zero h = absurd (omega arith)
sum_at f a (suc n) h = go (λ l. sum_at f a n l) (ℕ_discrete n a)
  where
    go : (a < n → sum_below f n ≡ f a + sum_below (without a f) n) → Dec (n ≡ a) →
        f n + sum_below f n ≡ f a + (without a f n + sum_below (without a f) n)
    go rec (yes e) =
        let b = sum_without_above f a n (omega arith) in
        let c = without_there a f n e in
        let q = ap f e in
        omega arith
    go rec (no d) =
        let b = rec (omega arith) in
        let c = without_elsewhere a f n d in
        omega arith

-- where the values at a and at b fall together by so much, and no other rises, the sum falls by so much
pub sum_falls_at_two : (f g : ℕ → ℕ) (a b extra n : ℕ) → (a ≡ b → ⊥) → a < n → b < n → ((i : ℕ) → (i ≡ a → ⊥) → (i ≡ b → ⊥) → g i ≤ f i) →
    g a + g b + extra ≤ f a + f b →
    sum_below g n + extra ≤ sum_below f n
sum_falls_at_two f g a b extra n d a< b< h e =
    let fa = sum_at f a n a< in
    let fb = sum_at (without a f) b n b< in
    let ga = sum_at g a n a< in
    let gb = sum_at (without a g) b n b< in
    let fb' = without_elsewhere a f b (λ q. d (sym q)) in
    let gb' = without_elsewhere a g b (λ q. d (sym q)) in
    let r = sum_below_le (without b (without a f)) (without b (without a g)) rest n in
    omega arith
  where
    rest : (i : ℕ) → without b (without a g) i ≤ without b (without a f) i
    rest i = go (ℕ_discrete i b) (ℕ_discrete i a)
      where
        go : Dec (i ≡ b) → Dec (i ≡ a) → without b (without a g) i ≤ without b (without a f) i
        go (yes p) q = rw (without_there b (without a g) i p) (omega arith)
        go (no p) (yes q) =
            let x = without_elsewhere b (without a g) i p in
            let y = without_there a g i q in
            omega arith
        go (no p) (no q) =
            let x = h i q p in
            rw (without_elsewhere b (without a g) i p, without_elsewhere b (without a f) i p, without_elsewhere a g i q, without_elsewhere a f i q) x
