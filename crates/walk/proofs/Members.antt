-- Lists in which each node stands once, and how long they can be. Assumes nothing.
use Rattle.std.proofs.Common.{◌≡◌, ◌≢◌, ℕ, zero, suc, ◌+◌, ◌<◌, ◌≤◌, List, [], ◌∷◌, ◌++◌, length, refl, ap, inl, inr, arith, length-append}
use Rattle.theory.specs.Walks.{In}
use Rattle.theory.proofs.Impossible.{impossible}
use Rattle.theory.proofs.Members.{in_first, in_rest, in_split, in_either, distinct_few}
use Rattle.walk.specs.Stands.{Once}

-- what holds of the first node and of the others holds of each
pub each_in : (P : ℕ → Type 0) (y : ℕ) (ys : List ℕ) → P y → ((x : ℕ) → In x ys → P x) → (x : ℕ) → In x (y ∷ ys) → P x
each_in P y ys first rest x p = elim (in_split x y ys p) [ inl e ↦ rw e first | inr q ↦ rest x q ]

pub in_others : (x y : ℕ) (ys : List ℕ) → x ≢ y → In x (y ∷ ys) → In x ys
in_others x y ys ne p = elim (in_split x y ys p) [ inl e ↦ absurd (ne e) | inr q ↦ q ]

pub once_none : Once []
once_none k l u e f = impossible (cc)

pub once_more : (x : ℕ) (xs : List ℕ) → (In x xs → ⊥) → Once xs → Once (x ∷ xs)
once_more x xs new once zero zero u e f = refl
once_more x xs new once zero (suc l) u e f = absurd (let s : u ≡ x = cc in new (l, rw (← s) f))
once_more x xs new once (suc k) zero u e f = absurd (let s : u ≡ x = cc in new (k, rw (← s) e))
once_more x xs new once (suc k) (suc l) u e f = ap suc (once k l u e f)

pub once_rest : (x : ℕ) (xs : List ℕ) → Once (x ∷ xs) → Once xs
once_rest x xs once k l u e f = let q = once (suc k) (suc l) u e f in omega arith

pub once_first : (x : ℕ) (xs : List ℕ) → Once (x ∷ xs) → In x xs → ⊥
once_first x xs once p = let q = once 0 (suc p.0) x refl p.1 in omega arith

pub once_both : (xs ys : List ℕ) → Once xs → Once ys → ((x : ℕ) → In x xs → In x ys → ⊥) → Once (xs ++ ys)
once_both [] ys a b apart = b
once_both (x ∷ xs) ys a b apart =
    let rest = once_both xs ys (once_rest x xs a) b (λ u p q. apart u (in_rest u x xs p) q) in
    once_more x (xs ++ ys) (λ p. elim (in_either x xs ys p) [ inl q ↦ once_first x xs a q | inr q ↦ apart x (in_first x xs refl) q ]) rest

-- two lists of nodes below n, with no node in common, have together no more than n
pub both_few : (n : ℕ) (xs ys : List ℕ) → Once xs → Once ys → ((x : ℕ) → In x xs → In x ys → ⊥) → ((x : ℕ) → In x xs → x < n) → ((x : ℕ) → In x ys → x < n) →
    length xs + length ys ≤ n
both_few n xs ys a b apart low low' =
    let few = distinct_few n (xs ++ ys) (once_both xs ys a b apart) (λ k u e. elim (in_either u xs ys (k, e)) [ inl p ↦ low u p | inr p ↦ low' u p ]) in
    let l = length-append xs ys in
    omega arith
