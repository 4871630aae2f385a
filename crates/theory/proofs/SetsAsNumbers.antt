-- Sets of classes as numbers. Assumes nothing.
use Rattle.std.proofs.Common.{◌≡◌, ℕ, zero, suc, ◌+◌, ◌-◌, ◌/◌, ◌%◌, ◌^◌, ◌<◌, ◌≤◌, max, T, ◌⊎◌, sym, refl, ap, ◌∙◌, inl, inr, div-one, arith, eqb→eq, shr-shr}
use Rattle.std.proofs.Math.Decide.{dec_lt}
use Rattle.std.specs.Int.Bits.{bit_or, or_step}
use Rattle.std.proofs.lemmas.Nat.{or_shr}
use Rattle.theory.specs.Meaning.{has, Included}

pub has_one : (x k : ℕ) → T (has x k) → (x / 2 ^ k) % 2 ≡ 1
has_one x k h = eqb→eq ((x / 2 ^ k) % 2) 1 h

pub one_has : (x k : ℕ) → (x / 2 ^ k) % 2 ≡ 1 → T (has x k)
one_has x k e = rw e tt

half : (x k : ℕ) → x / 2 / 2 ^ k ≡ x / 2 ^ suc k
half x k = let e : 1 + k ≡ suc k = omega arith in shr-shr x 1 k ∙ ap (λ (j : ℕ). x / 2 ^ j) e

pub has_half : (x k : ℕ) → T (has (x / 2) k) → T (has x (suc k))
has_half x k h = one_has x (suc k) (ap (λ (y : ℕ). y % 2) (sym (half x k)) ∙ has_one (x / 2) k h)

pub half_has : (x k : ℕ) → T (has x (suc k)) → T (has (x / 2) k)
half_has x k h = one_has (x / 2) k (ap (λ (y : ℕ). y % 2) (half x k) ∙ has_one x (suc k) h)

low_of : (x : ℕ) → T (has x 0) → x % 2 ≡ 1
low_of x h = ap (λ (y : ℕ). y % 2) (sym (div-one x)) ∙ has_one x 0 h

of_low : (x : ℕ) → x % 2 ≡ 1 → T (has x 0)
of_low x e = one_has x 0 (ap (λ (y : ℕ). y % 2) (div-one x) ∙ e)

bit_cases : (x : ℕ) → (x % 2 ≡ 0) ⊎ (x % 2 ≡ 1)
bit_cases x = go (x % 2) (omega arith)
  where
    go : (b : ℕ) → b < 2 → (b ≡ 0) ⊎ (b ≡ 1)
    go zero h = inl refl
    go (suc zero) h = inr refl
    go (suc (suc b)) h = absurd (omega arith)

same_low : (x y : ℕ) → (T (has x 0) → T (has y 0)) → (T (has y 0) → T (has x 0)) → x % 2 ≡ y % 2
same_low x y f g = go (bit_cases x) (bit_cases y)
  where
    go : (x % 2 ≡ 0) ⊎ (x % 2 ≡ 1) → (y % 2 ≡ 0) ⊎ (y % 2 ≡ 1) → x % 2 ≡ y % 2
    go (inl a) (inl b) = a ∙ sym b
    go (inl a) (inr b) = let c = low_of x (g (of_low y b)) in absurd (omega arith)
    go (inr a) (inl b) = let c = low_of y (f (of_low x a)) in absurd (omega arith)
    go (inr a) (inr b) = a ∙ sym b

same_below : (n x y : ℕ) → x ≤ n → y ≤ n → ((k : ℕ) → T (has x k) → T (has y k)) → ((k : ℕ) → T (has y k) → T (has x k)) → x ≡ y
same_below zero x y hx hy f g = omega arith
same_below (suc n) x y hx hy f g =
    let low = same_low x y (f 0) (g 0) in
    let high = same_below n (x / 2) (y / 2) (omega arith) (omega arith) (λ k h. half_has y k (f (suc k) (has_half x k h))) (λ k h. half_has x k (g (suc k) (has_half y k h))) in
    omega arith

-- a set is its classes
pub same_set : (x y : ℕ) → ((k : ℕ) → T (has x k) → T (has y k)) → ((k : ℕ) → T (has y k) → T (has x k)) → x ≡ y
same_set x y f g = same_below (x + y) x y (omega arith) (omega arith) f g

or_low : (a b : ℕ) → bit_or a b % 2 ≡ max (a % 2) (b % 2)
or_low a b = let e = or_step a b in omega arith

or_bit : (a b k : ℕ) → (bit_or a b / 2 ^ k) % 2 ≡ max ((a / 2 ^ k) % 2) ((b / 2 ^ k) % 2)
or_bit a b k = ap (λ (y : ℕ). y % 2) (or_shr a b k) ∙ or_low (a / 2 ^ k) (b / 2 ^ k)

pub has_or_left : (a b k : ℕ) → T (has a k) → T (has (bit_or a b) k)
has_or_left a b k h = let e = has_one a k h in let o = or_bit a b k in one_has (bit_or a b) k (omega arith)

pub has_or_right : (a b k : ℕ) → T (has b k) → T (has (bit_or a b) k)
has_or_right a b k h = let e = has_one b k h in let o = or_bit a b k in one_has (bit_or a b) k (omega arith)

pub has_or : (a b k : ℕ) → T (has (bit_or a b) k) → T (has a k) ⊎ T (has b k)
has_or a b k h = go (bit_cases (a / 2 ^ k)) (bit_cases (b / 2 ^ k))
  where
    go : ((a / 2 ^ k) % 2 ≡ 0) ⊎ ((a / 2 ^ k) % 2 ≡ 1) → ((b / 2 ^ k) % 2 ≡ 0) ⊎ ((b / 2 ^ k) % 2 ≡ 1) → T (has a k) ⊎ T (has b k)
    go (inr x) y = inl (one_has a k x)
    go (inl x) (inr y) = inr (one_has b k y)
    go (inl x) (inl y) = let e = has_one (bit_or a b) k h in let o = or_bit a b k in absurd (omega arith)

pub has_none : (k : ℕ) → T (has 0 k) → ⊥
has_none zero h = let e = low_of 0 h in omega arith
has_none (suc k) h = has_none k (half_has 0 k h)

-- the classes of a set are below it
pub has_below : (x k : ℕ) → T (has x k) → k < x + 1
has_below x zero h = omega arith
has_below x (suc k) h = go (x / 2) refl (half_has x k h) (has_below (x / 2) k (half_has x k h))
  where
    go : (y : ℕ) → x / 2 ≡ y → T (has (x / 2) k) → k < x / 2 + 1 → suc k < x + 1
    go zero e g l = absurd (has_none k (rw e at g))
    go (suc y) e g l = omega arith

-- a set without classes is empty
pub no_classes_empty : (x : ℕ) → ((k : ℕ) → T (has x k) → ⊥) → x ≡ 0
no_classes_empty x none_of = same_set x 0 (λ k h. absurd (none_of k h)) (λ k h. absurd (has_none k h))

shifted : (x j : ℕ) → x / 2 ^ (8 + j) ≡ x / 256 / 2 ^ j
shifted x j = sym (shr-shr x 8 j)

pub has_shifted : (x j : ℕ) → T (has (x / 256) j) → T (has x (8 + j))
has_shifted x j h = one_has x (8 + j) (ap (λ (y : ℕ). y % 2) (shifted x j) ∙ has_one (x / 256) j h)

shifted_has : (x j : ℕ) → T (has x (8 + j)) → T (has (x / 256) j)
shifted_has x j h = one_has (x / 256) j (ap (λ (y : ℕ). y % 2) (sym (shifted x j)) ∙ has_one x (8 + j) h)

-- a number of 8 bits has classes below 8 only
pub small_has_low : (x k : ℕ) → x < 256 → T (has x k) → k < 8
small_has_low x k small h = go (dec_lt k 8)
  where
    go : Dec (k < 8) → k < 8
    go (yes l) = l
    go (no n) =
        let e : 8 + (k - 8) ≡ k = omega arith in
        let q : x / 256 ≡ 0 = omega arith in
        let h' : T (has x (8 + (k - 8))) = rw e h in
        absurd (has_none (k - 8) (rw q at (shifted_has x (k - 8) h')))

-- and a set of such classes is one
pub low_has_small : (x : ℕ) → ((k : ℕ) → T (has x k) → k < 8) → x < 256
low_has_small x low =
    let q = no_classes_empty (x / 256) (λ k h. let l = low (8 + k) (has_shifted x k h) in omega arith) in
    omega arith

included_low : (a b : ℕ) → Included a b → a % 2 ≤ b % 2
included_low a b i = go (bit_cases a)
  where
    go : (a % 2 ≡ 0) ⊎ (a % 2 ≡ 1) → a % 2 ≤ b % 2
    go (inl e) = omega arith
    go (inr e) = let f = low_of b (i 0 (of_low a e)) in omega arith

included_up_to : (n a b : ℕ) → a ≤ n → Included a b → a ≤ b
included_up_to zero a b h i = omega arith
included_up_to (suc n) a b h i =
    let low = included_low a b i in
    let high = included_up_to n (a / 2) (b / 2) (omega arith) (λ k x. half_has b k (i (suc k) (has_half a k x))) in
    omega arith

-- a set is not above one that includes it
pub included_below : (a b : ℕ) → Included a b → a ≤ b
included_below a b i = included_up_to a a b (omega arith) i
