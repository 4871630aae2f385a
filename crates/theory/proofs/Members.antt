-- Numbers that stand in a list, and how many do not. Assumes nothing.
use Rattle.std.proofs.Common.{◌≡◌, ℕ, zero, suc, ◌+◌, ◌<◌, ◌≤◌, ◌⊎◌, List, [], ◌∷◌, ◌++◌, length, Some, sym, refl, ap, inl, inr, arith}
use Rattle.std.proofs.Math.Decide.{ℕ_discrete}
use Rattle.std.specs.List.{slice_get}
use Rattle.theory.specs.Counts.{count_below}
use Rattle.theory.specs.Walks.{In}
use Rattle.theory.proofs.Impossible.{impossible}
use Rattle.theory.proofs.Lookups.{nth_front, nth_later, nth_split}
use Rattle.theory.proofs.Counts.{count_below_le, count_below_lt, count_below_all}

pub decide_in : (x : ℕ) (xs : List ℕ) → Dec (In x xs)
decide_in x [] = no (λ h. let e = h.1 in impossible (cc))
decide_in x (y ∷ xs) = go (ℕ_discrete x y) (decide_in x xs)
  where
    go : Dec (x ≡ y) → Dec (In x xs) → Dec (In x (y ∷ xs))
    go (yes e) d = yes (0, ap Some (sym e))
    go (no n) (yes h) = yes (suc h.0, h.1)
    go (no n) (no h) = no (λ p. back p.0 p.1)
      where
        back : (k : ℕ) → slice_get (y ∷ xs) k ≡ Some x → ⊥
        back zero e = n (cc)
        back (suc k) e = h (k, e)

pub in_first : (x : ℕ) {y : ℕ} (ys : List ℕ) → x ≡ y → In x (y ∷ ys)
in_first x ys e = (0, ap Some (sym e))

pub in_rest : (x y : ℕ) (ys : List ℕ) → In x ys → In x (y ∷ ys)
in_rest x y ys p = (suc p.0, p.1)

pub in_split : (x y : ℕ) (ys : List ℕ) → In x (y ∷ ys) → (x ≡ y) ⊎ In x ys
in_split x y ys p = go p.0 p.1
  where
    go : (k : ℕ) → slice_get (y ∷ ys) k ≡ Some x → (x ≡ y) ⊎ In x ys
    go zero e = inl (cc)
    go (suc k) e = inr (k, e)

pub in_none : {A : Type 0} (x : ℕ) → In x [] → A
in_none x p = let e = p.1 in impossible (cc)

pub in_front : (x : ℕ) (xs ys : List ℕ) → In x xs → In x (xs ++ ys)
in_front x xs ys p = (p.0, nth_front xs ys p.0 x p.1)

pub in_back : (x : ℕ) (xs ys : List ℕ) → In x ys → In x (xs ++ ys)
in_back x xs ys p = nth_later xs ys p.0 x p.1

pub in_either : (x : ℕ) (xs ys : List ℕ) → In x (xs ++ ys) → In x xs ⊎ In x ys
in_either x xs ys p = nth_split xs ys p.0 x p.1

pub negate : {A : Type 0} → Dec A → Dec (A → ⊥)
negate (yes a) = no (λ f. f a)
negate (no n) = yes n

-- how many numbers below n are not in the list
abbrev pub outside : List ℕ → ℕ → ℕ
outside xs n = count_below (λ i. negate (decide_in i xs)) n

pub outside_more : (xs ys : List ℕ) → ((x : ℕ) → In x xs → In x ys) → (n : ℕ) → outside ys n ≤ outside xs n
outside_more xs ys f n = count_below_le (λ i. negate (decide_in i ys)) (λ i. negate (decide_in i xs)) (λ i not_in p. not_in (f i p)) n

pub outside_new : (xs : List ℕ) (x n : ℕ) → (In x xs → ⊥) → x < n → outside (x ∷ xs) n < outside xs n
outside_new xs x n not_in x< =
    count_below_lt (λ i. negate (decide_in i (x ∷ xs))) (λ i. negate (decide_in i xs)) (λ i f p. f (in_rest i x xs p)) x not_in (λ f. f (in_first x xs refl)) n x<

-- numbers below n that are all different are no more than n
pub distinct_few : (n : ℕ) (xs : List ℕ) → ((k l u : ℕ) → slice_get xs k ≡ Some u → slice_get xs l ≡ Some u → k ≡ l) → ((k u : ℕ) → slice_get xs k ≡ Some u → u < n) →
    outside xs n + length xs ≤ n
distinct_few n [] apart low = let h = count_below_all (λ i. negate (decide_in i [])) n in omega arith
distinct_few n (x ∷ xs) apart low =
    let rec = distinct_few n xs (λ k l u e f. let q = apart (suc k) (suc l) u e f in omega arith) (λ k u e. low (suc k) u e) in
    let fresh : In x xs → ⊥ = λ p. let q = apart 0 (suc p.0) x refl p.1 in omega arith in
    let less = outside_new xs x n fresh (low 0 x refl) in
    omega arith
