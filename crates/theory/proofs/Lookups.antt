-- Looking up an element of a list by its place. Assumes nothing.
use Rattle.std.proofs.Common.{◌≡◌, ℕ, zero, suc, ◌<◌, ◌≤◌, ◌⊎◌, List, [], ◌∷◌, ◌++◌, map, length, Some, refl, ap, ◌∙◌, subst, inl, inr, arith}
use Rattle.std.specs.List.{slice_get}
use Rattle.theory.specs.Closures.{pair_up}
use Rattle.theory.proofs.Impossible.{impossible}

pub nth_below : {A : Type 0} (xs : List A) (k : ℕ) {x : A} → slice_get xs k ≡ Some x → k < length xs
nth_below [] k e = impossible (cc)
nth_below (x ∷ xs) zero e = omega arith
nth_below (x ∷ xs) (suc k) e = let h = nth_below xs k e in omega arith

-- there is an element at a place, or the list ends before it
pub nth_or_past : {A : Type 0} (xs : List A) (k : ℕ) → ((x : A) × (slice_get xs k ≡ Some x)) ⊎ (length xs ≤ k)
nth_or_past [] k = inr (omega arith)
nth_or_past (x ∷ xs) zero = inl (x, refl)
nth_or_past {A} (x ∷ xs) (suc k) = go (nth_or_past xs k)
  where
    go : ((y : A) × (slice_get xs k ≡ Some y)) ⊎ (length xs ≤ k) → ((y : A) × (slice_get xs k ≡ Some y)) ⊎ (suc (length xs) ≤ suc k)
    go (inl p) = inl p
    go (inr l) = inr (omega arith)

pub nth_front : {A : Type 0} (xs ys : List A) (k : ℕ) (z : A) → slice_get xs k ≡ Some z → slice_get (xs ++ ys) k ≡ Some z
nth_front [] ys k z e = impossible (cc)
nth_front (x ∷ xs) ys zero z e = e
nth_front (x ∷ xs) ys (suc k) z e = nth_front xs ys k z e

pub nth_later : {A : Type 0} (xs ys : List A) (k : ℕ) (z : A) → slice_get ys k ≡ Some z → (j : ℕ) × (slice_get (xs ++ ys) j ≡ Some z)
nth_later [] ys k z e = (k, e)
nth_later (x ∷ xs) ys k z e = let h = nth_later xs ys k z e in (suc h.0, h.1)

pub nth_split : {A : Type 0} (xs ys : List A) (k : ℕ) (z : A) → slice_get (xs ++ ys) k ≡ Some z →
    ((j : ℕ) × (slice_get xs j ≡ Some z)) ⊎ ((j : ℕ) × (slice_get ys j ≡ Some z))
nth_split [] ys k z e = inr (k, e)
nth_split (x ∷ xs) ys zero z e = inl (0, e)
nth_split (x ∷ xs) ys (suc k) z e = go (nth_split xs ys k z e)
  where
    go : ((j : ℕ) × (slice_get xs j ≡ Some z)) ⊎ ((j : ℕ) × (slice_get ys j ≡ Some z)) → ((j : ℕ) × (slice_get (x ∷ xs) j ≡ Some z)) ⊎ ((j : ℕ) × (slice_get ys j ≡ Some z))
    go (inl j) = inl (suc j.0, j.1)
    go (inr j) = inr j

-- one element more at the end
pub nth_pushed : {A : Type 0} (xs : List A) (a : A) → slice_get (xs ++ (a ∷ [])) (length xs) ≡ Some a
nth_pushed [] a = refl
nth_pushed (x ∷ xs) a = nth_pushed xs a

pub nth_pushed_split : {A : Type 0} (xs : List A) (a : A) (k : ℕ) (z : A) → slice_get (xs ++ (a ∷ [])) k ≡ Some z →
    (slice_get xs k ≡ Some z) ⊎ ((k ≡ length xs) × (z ≡ a))
nth_pushed_split [] a zero z e = inr (refl, cc)
nth_pushed_split [] a (suc k) z e = impossible (cc)
nth_pushed_split (x ∷ xs) a zero z e = inl e
nth_pushed_split (x ∷ xs) a (suc k) z e = go (nth_pushed_split xs a k z e)
  where
    go : (slice_get xs k ≡ Some z) ⊎ ((k ≡ length xs) × (z ≡ a)) → (slice_get xs k ≡ Some z) ⊎ ((suc k ≡ suc (length xs)) × (z ≡ a))
    go (inl h) = inl h
    go (inr h) = inr (ap suc h.0, h.1)

-- elements of a list that a function was applied to
pub nth_map : (f : ℕ → ℕ) (xs : List ℕ) (k x : ℕ) → slice_get xs k ≡ Some x → slice_get (map f xs) k ≡ Some (f x)
nth_map f [] k x e = impossible (cc)
nth_map f (y ∷ xs) zero x e = ap (λ o. Some (f o)) (cc)
nth_map f (y ∷ xs) (suc k) x e = nth_map f xs k x e

pub map_nth : (f : ℕ → ℕ) (xs : List ℕ) (k y : ℕ) → slice_get (map f xs) k ≡ Some y → (x : ℕ) × (slice_get xs k ≡ Some x) × (f x ≡ y)
map_nth f [] k y e = impossible (cc)
map_nth f (x ∷ xs) zero y e = (x, refl, cc)
map_nth f (x ∷ xs) (suc k) y e = map_nth f xs k y e

pub same_map_nth : (f : ℕ → ℕ) (ps qs : List ℕ) (k p q : ℕ) → map f ps ≡ map f qs → slice_get ps k ≡ Some p → slice_get qs k ≡ Some q → f p ≡ f q
same_map_nth f [] qs k p q e hp hq = impossible (cc)
same_map_nth f (x ∷ ps) [] k p q e hp hq = impossible (cc)
same_map_nth f (x ∷ ps) (y ∷ qs) zero p q e hp hq = cc
same_map_nth f (x ∷ ps) (y ∷ qs) (suc k) p q e hp hq = same_map_nth f ps qs k p q (cc) hp hq

pub same_map_partner : (f : ℕ → ℕ) (ps qs : List ℕ) (k p : ℕ) → map f ps ≡ map f qs → slice_get ps k ≡ Some p → (q : ℕ) × (slice_get qs k ≡ Some q) × (f p ≡ f q)
same_map_partner f [] qs k p e h = impossible (cc)
same_map_partner f (x ∷ ps) [] k p e h = impossible (cc)
same_map_partner f (x ∷ ps) (y ∷ qs) zero p e h = (y, refl, cc)
same_map_partner f (x ∷ ps) (y ∷ qs) (suc k) p e h = same_map_partner f ps qs k p (cc) h

-- what holds of every pair of a list of pairs
abbrev pub EachPair : (ℕ → ℕ → Type 0) → List (ℕ × ℕ) → Type 0
EachPair P pairs = (k x y : ℕ) → slice_get pairs k ≡ Some (x, y) → P x y

pub each_none : (P : ℕ → ℕ → Type 0) → EachPair P []
each_none P k x y e = impossible (cc)

pub each_next : (P : ℕ → ℕ → Type 0) (a b : ℕ) (rest : List (ℕ × ℕ)) → P a b → EachPair P rest → EachPair P ((a, b) ∷ rest)
each_next P a b rest p f zero x y e =
    let q : ◌≡◌ {A = ℕ × ℕ} (a, b) (x, y) = cc in
    let Q : ℕ × ℕ → Type 0 = λ z. P z.0 z.1 in
    subst Q q p
each_next P a b rest p f (suc k) x y e = f k x y e

pub each_two : (P : ℕ → ℕ → Type 0) (a b c d : ℕ) → P a b → P c d → EachPair P ((a, b) ∷ (c, d) ∷ [])
each_two P a b c d p q = each_next P a b ((c, d) ∷ []) p (each_next P c d [] q (each_none P))

pub each_append : (P : ℕ → ℕ → Type 0) (xs ys : List (ℕ × ℕ)) → EachPair P xs → EachPair P ys → EachPair P (xs ++ ys)
each_append P xs ys f g k x y e = go (nth_split xs ys k (x, y) e)
  where
    go : ((j : ℕ) × (slice_get xs j ≡ Some (x, y))) ⊎ ((j : ℕ) × (slice_get ys j ≡ Some (x, y))) → P x y
    go (inl j) = f j.0 x y j.1
    go (inr j) = g j.0 x y j.1

-- of the rest, where it holds of the whole
pub each_rest : (P : ℕ → ℕ → Type 0) (a b : ℕ) (rest all : List (ℕ × ℕ)) → all ≡ (a, b) ∷ rest → EachPair P all → EachPair P rest
each_rest P a b rest all is f k x y e = f (suc k) x y (ap (λ (xs : List (ℕ × ℕ)). slice_get xs (suc k)) is ∙ e)

pub each_first : (P : ℕ → ℕ → Type 0) (a b : ℕ) (rest all : List (ℕ × ℕ)) → all ≡ (a, b) ∷ rest → EachPair P all → P a b
each_first P a b rest all is f = f 0 a b (ap (λ (xs : List (ℕ × ℕ)). slice_get xs 0) is)

-- lists paired up
pub pair_up_nth : (xs ys : List ℕ) (k x y : ℕ) → slice_get (pair_up xs ys) k ≡ Some (x, y) → (slice_get xs k ≡ Some x) × (slice_get ys k ≡ Some y)
pair_up_nth [] ys k x y e = impossible (cc)
pair_up_nth (a ∷ xs) [] k x y e = impossible (cc)
pair_up_nth (a ∷ xs) (b ∷ ys) zero x y e =
    let p : ◌≡◌ {A = ℕ × ℕ} (a, b) (x, y) = cc in
    (ap (λ q. Some q.0) p, ap (λ q. Some q.1) p)
pair_up_nth (a ∷ xs) (b ∷ ys) (suc k) x y e = pair_up_nth xs ys k x y e

pub pair_up_few : (xs ys : List ℕ) → length (pair_up xs ys) ≤ length xs
pair_up_few [] ys = omega arith
pair_up_few (x ∷ xs) [] = omega arith
pair_up_few (x ∷ xs) (y ∷ ys) = let h = pair_up_few xs ys in omega arith
