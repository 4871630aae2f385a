-- The unknowns that a listing numbers. Assumes nothing.
use Rattle.std.proofs.Common.{◌≡◌, ℕ, zero, suc, ◌<◌, ◌⊎◌, List, [], ◌∷◌, ◌++◌, length, Some, sym, refl, ap, ◌∙◌, inl, inr, arith}
use Rattle.std.specs.List.{slice_get}
use Rattle.theory.specs.Meaning.{Meaning}
use Rattle.theory.specs.States.{State, Term, Standing, Formed}
use Rattle.theory.specs.Joined.{Joined, symmetric}
use Rattle.theory.specs.ListLike.{ListLike, joined_list, joined_loop}
use Rattle.theory.specs.ClassUnions.{Union}
use Rattle.theory.specs.Listings.{unknown_word, WithoutTerm, Unnumbered, Written, list_word, term_word, numbered_word, new_word, WrittenAll, no_more, next_cell}
use Rattle.theory.proofs.Impossible.{impossible}
use Rattle.theory.proofs.Lookups.{nth_below, nth_front, nth_pushed_split}

abbrev pub Occurs : ℕ → List ℕ → Type 0
Occurs v ws = (j : ℕ) × (slice_get ws j ≡ Some v)

occurs_front : (ws vs : List ℕ) {v : ℕ} → Occurs v ws → Occurs v (ws ++ vs)
occurs_front [] vs o = let e = o.1 in impossible (cc)
occurs_front (x ∷ ws) vs {v} o = go (λ p. occurs_front ws vs p) o.0 o.1
  where
    go : (Occurs v ws → Occurs v (ws ++ vs)) → (j : ℕ) → slice_get (x ∷ ws) j ≡ Some v → Occurs v (x ∷ (ws ++ vs))
    go f zero e = (0, e)
    go f (suc j) e = let r = f (j, e) in (suc r.0, r.1)

occurs_back : (ws vs : List ℕ) {v : ℕ} → Occurs v vs → Occurs v (ws ++ vs)
occurs_back [] vs o = o
occurs_back (x ∷ ws) vs o = let r = occurs_back ws vs o in (suc r.0, r.1)

-- the word of number k for the cell u stands in the words
pub record WordOccurs (m : Meaning) (s : State) (k u : ℕ) (ws : List ℕ) : Type 0 where
  pub set : ℕ
  pub union : Union m s u set
  pub occurs : Occurs (unknown_word k set) ws

-- they are joined neither to each other nor to a term
pub record Apart (m : Meaning) (s : State) (numbered : List ℕ) : Type 0 where
  pub apart : (k l u v : ℕ) → slice_get numbered k ≡ Some u → slice_get numbered l ≡ Some v → Joined m s u v → k ≡ l
  pub without_term : (k u : ℕ) → slice_get numbered k ≡ Some u → WithoutTerm m s u

module _ {m : Meaning} {s : State} where
  pub apart_none : Apart m s []
  apart_none = record { apart = λ k l u v e. impossible (cc); without_term = λ k u e. impossible (cc) }

  apart_more : {numbered : List ℕ} {i : ℕ} → WithoutTerm m s i → Unnumbered m s numbered i → Apart m s numbered → Apart m s (numbered ++ (i ∷ []))
  apart_more {numbered} {i} n f z = record {
    apart = λ k l u v e e' g. apart k l u v g (nth_pushed_split numbered i k u e) (nth_pushed_split numbered i l v e');
    without_term = λ k u e. without_term k u (nth_pushed_split numbered i k u e);
  }
    where
      apart : (k l u v : ℕ) → Joined m s u v → (slice_get numbered k ≡ Some u) ⊎ ((k ≡ length numbered) × (u ≡ i)) →
          (slice_get numbered l ≡ Some v) ⊎ ((l ≡ length numbered) × (v ≡ i)) → k ≡ l
      apart k l u v g (inl a) (inl b) = z.apart k l u v a b g
      apart k l u v g (inl a) (inr b) = absurd (f k u a (symmetric (rw b.1 at g)))
      apart k l u v g (inr a) (inl b) = absurd (f l v b (rw a.1 at g))
      apart k l u v g (inr a) (inr b) = a.0 ∙ sym b.0

      without_term : (k u : ℕ) → (slice_get numbered k ≡ Some u) ⊎ ((k ≡ length numbered) × (u ≡ i)) → WithoutTerm m s u
      without_term k u (inl a) = z.without_term k u a
      without_term k u (inr a) = rw a.1 n

  mutual
    apart_cell : {numbered after : List ℕ} {i : ℕ} {ws : List ℕ} → Written m s numbered i ws after → Apart m s numbered → Apart m s after
    apart_cell (list_word h x) z = apart_cell x z
    apart_cell (term_word n a t xs) z = apart_cells xs z
    apart_cell (numbered_word n f v) z = z
    apart_cell (new_word n f v) z = apart_more n f z

    pub apart_cells : {numbered after ps : List ℕ} {ws : List ℕ} → WrittenAll m s numbered ps ws after → Apart m s numbered → Apart m s after
    apart_cells no_more z = z
    apart_cells (next_cell x xs) z = apart_cells xs (apart_cell x z)

  occurs_under : {k u v : ℕ} {ws : List ℕ} {A : Type 0} → A ⊎ WordOccurs m s k u ws → A ⊎ WordOccurs m s k u (v ∷ ws)
  occurs_under (inl a) = inl a
  occurs_under (inr o) = inr (record { set = o.set; union = o.union; occurs = (suc o.occurs.0, o.occurs.1) })

  -- every unknown that has been numbered stands in the words
  mutual
    occurs_cell : {numbered after : List ℕ} {i : ℕ} {ws : List ℕ} → Written m s numbered i ws after → (k u : ℕ) → slice_get after k ≡ Some u →
        (slice_get numbered k ≡ Some u) ⊎ WordOccurs m s k u ws
    occurs_cell (list_word h x) k u e = occurs_under (occurs_cell x k u e)
    occurs_cell (term_word n a t xs) k u e = occurs_under (occurs_cells xs k u e)
    occurs_cell (numbered_word n f v) k u e = inl e
    occurs_cell (new_word {numbered} {i} {set} n f v) k u e = go (nth_pushed_split numbered i k u e)
      where
        go : (slice_get numbered k ≡ Some u) ⊎ ((k ≡ length numbered) × (u ≡ i)) →
            (slice_get numbered k ≡ Some u) ⊎ WordOccurs m s k u (unknown_word (length numbered) set ∷ [])
        go (inl a) = inl a
        go (inr b) = inr (record { set = set; union = rw b.1 v; occurs = (0, ap (λ n. Some (unknown_word n set)) (sym b.0)) })

    pub occurs_cells : {numbered after ps ws : List ℕ} → WrittenAll m s numbered ps ws after → (k u : ℕ) → slice_get after k ≡ Some u →
        (slice_get numbered k ≡ Some u) ⊎ WordOccurs m s k u ws
    occurs_cells no_more k u e = inl e
    occurs_cells {numbered} (next_cell {between = between} {words = ws} {words' = vs} x xs) k u e = go (λ a. occurs_cell x k u a) (occurs_cells xs k u e)
      where
        near : (slice_get numbered k ≡ Some u) ⊎ WordOccurs m s k u ws → (slice_get numbered k ≡ Some u) ⊎ WordOccurs m s k u (ws ++ vs)
        near (inl a) = inl a
        near (inr o) = inr (record { set = o.set; union = o.union; occurs = occurs_front ws vs o.occurs })

        go : (slice_get between k ≡ Some u → (slice_get numbered k ≡ Some u) ⊎ WordOccurs m s k u ws) → (slice_get between k ≡ Some u) ⊎ WordOccurs m s k u vs →
            (slice_get numbered k ≡ Some u) ⊎ WordOccurs m s k u (ws ++ vs)
        go f (inl a) = near (f a)
        go f (inr o) = inr (record { set = o.set; union = o.union; occurs = occurs_back ws vs o.occurs })

  -- what has a number keeps it
  mutual
    pub keeps_number : {numbered after ws : List ℕ} {i : ℕ} → Written m s numbered i ws after → (k u : ℕ) → slice_get numbered k ≡ Some u →
        slice_get after k ≡ Some u
    keeps_number (list_word h x) k u e = keeps_number x k u e
    keeps_number (term_word n a t xs) k u e = keeps_numbers xs k u e
    keeps_number (numbered_word n f v) k u e = e
    keeps_number (new_word {numbered} {i} n f v) k u e = nth_front numbered (i ∷ []) k u e

    pub keeps_numbers : {numbered after ps ws : List ℕ} → WrittenAll m s numbered ps ws after → (k u : ℕ) → slice_get numbered k ≡ Some u →
        slice_get after k ≡ Some u
    keeps_numbers no_more k u e = e
    keeps_numbers (next_cell x xs) k u e = keeps_numbers xs k u (keeps_number x k u e)

-- and they stand
module _ {m : Meaning} {s : State} (formed : Formed m s) where
  pub place_stands : (j c : ℕ) (ps : List ℕ) → Term s j c ps → (k p : ℕ) → slice_get ps k ≡ Some p → p < length s.cells
  place_stands j c ps t k p e =
      let a = formed.term_lower j c ps t k p e in
      let b = nth_below s.cells j t in
      omega arith

  pub element_stands : {i list e : ℕ} → ListLike m s i list e → e < length s.cells
  element_stands {e = e} (joined_list j pair c a t p l) = place_stands j c (e ∷ []) t 0 e refl
  element_stands {e = e} (joined_loop j u c a t l r) = place_stands j c (e ∷ u ∷ []) t 0 e refl

  mutual
    stands_cell : {numbered after : List ℕ} {i : ℕ} {ws : List ℕ} → Written m s numbered i ws after → i < length s.cells → Standing s numbered →
        Standing s after
    stands_cell (list_word h x) i< z = stands_cell x (element_stands h) z
    stands_cell (term_word {ps = ps} {j = j} {c = c} n a t xs) i< z = stands_cells xs (place_stands j c ps t) z
    stands_cell (numbered_word n f v) i< z = z
    stands_cell (new_word {numbered} {i} n f v) i< z = λ k u e. go k u (nth_pushed_split numbered i k u e)
      where
        go : (k u : ℕ) → (slice_get numbered k ≡ Some u) ⊎ ((k ≡ length numbered) × (u ≡ i)) → u < length s.cells
        go k u (inl a) = z k u a
        go k u (inr b) = rw b.1 i<

    pub stands_cells : {numbered after ps : List ℕ} {ws : List ℕ} → WrittenAll m s numbered ps ws after →
        Standing s ps → Standing s numbered → Standing s after
    stands_cells no_more h z = z
    stands_cells (next_cell {i = p} x xs) h z = stands_cells xs (λ k q e. h (suc k) q e) (stands_cell x (h 0 p refl) z)
