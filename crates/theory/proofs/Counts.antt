-- More numbers below a bound pass a weaker test. Assumes nothing.
use Rattle.std.proofs.Common.{◌≡◌, ℕ, zero, suc, ◌+◌, ◌<◌, ◌≤◌, arith}
use Rattle.std.proofs.Math.Decide.{ℕ_discrete}
use Rattle.theory.specs.IfSo.{if_so}
use Rattle.theory.specs.Counts.{count_below}

if_so_le : {A B : Type 0} → (A → B) → (d : Dec A) (e : Dec B) → if_so d 1 0 ≤ if_so e 1 0
unfolding if_so
if_so_le f (yes a) (yes b) = omega arith
if_so_le f (yes a) (no n) = absurd (n (f a))
if_so_le f (no m) (yes b) = omega arith
if_so_le f (no m) (no n) = omega arith

if_so_lt : {A B : Type 0} → B → (A → ⊥) → (d : Dec A) (e : Dec B) → if_so d 1 0 < if_so e 1 0
unfolding if_so
if_so_lt b m (yes a) e = absurd (m a)
if_so_lt b m (no n) (yes c) = omega arith
if_so_lt b m (no n) (no c) = absurd (c b)

module _ {P Q : ℕ → Type 0} (p : (i : ℕ) → Dec (P i)) (q : (i : ℕ) → Dec (Q i)) (weaker : (i : ℕ) → P i → Q i) where
  pub count_below_le : (n : ℕ) → count_below p n ≤ count_below q n
  unfolding count_below
  count_below_le zero = omega arith
  count_below_le (suc n) = let h = count_below_le n in let u = if_so_le (weaker n) (p n) (q n) in omega arith

  -- and strictly more, where one below the bound passes the weaker test only
  pub count_below_lt : (x : ℕ) → Q x → (P x → ⊥) → (n : ℕ) → x < n → count_below p n < count_below q n
  unfolding count_below
  count_below_lt x yes_q no_p zero h = absurd (omega arith)
  count_below_lt x yes_q no_p (suc n) h = go (λ l. count_below_lt x yes_q no_p n l) (ℕ_discrete x n)
    where
      go : (x < n → count_below p n < count_below q n) → Dec (x ≡ n) → if_so (p n) 1 0 + count_below p n < if_so (q n) 1 0 + count_below q n
      go rec (yes e) =
          let r = count_below_le n in
          let u = if_so_lt (rw e at yes_q) (rw e at no_p) (p n) (q n) in
          omega arith
      go rec (no d) =
          let r = rec (omega arith) in
          let u = if_so_le (weaker n) (p n) (q n) in
          omega arith

pub count_below_all : {P : ℕ → Type 0} (p : (i : ℕ) → Dec (P i)) (n : ℕ) → count_below p n ≤ n
unfolding count_below if_so
count_below_all p zero = omega arith
count_below_all {P} p (suc n) = go (p n) (count_below_all p n)
  where
    go : (d : Dec (P n)) → count_below p n ≤ n → if_so d 1 0 + count_below p n ≤ suc n
    go (yes a) h = omega arith
    go (no a) h = omega arith
