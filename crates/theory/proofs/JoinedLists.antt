-- Lists of cells that are joined cell by cell. Assumes nothing.
use Rattle.std.proofs.Common.{◌≡◌, ℕ, zero, suc, List, [], ◌∷◌, ◌++◌, length, Some, refl, ap, arith}
use Rattle.std.specs.List.{slice_get}
use Rattle.theory.specs.Meaning.{Meaning}
use Rattle.theory.specs.States.{State}
use Rattle.theory.specs.Joined.{Joined, reflexive, symmetric, JoinedLists, both_end, both_next}
use Rattle.theory.proofs.Impossible.{impossible}

module _ {m : Meaning} {s : State} where
  pub joined_length : {xs ys : List ℕ} → JoinedLists m s xs ys → length xs ≡ length ys
  joined_length both_end = refl
  joined_length (both_next j h) = ap suc (joined_length h)

  pub joined_at : {xs ys : List ℕ} → JoinedLists m s xs ys → (k u : ℕ) → slice_get xs k ≡ Some u → (v : ℕ) × (slice_get ys k ≡ Some v) × Joined m s u v
  joined_at both_end k u e = impossible (cc)
  joined_at (both_next {x} {y} j h) zero u e = (y, refl, let q : x ≡ u = cc in rw (← q) j)
  joined_at (both_next j h) (suc k) u e = joined_at h k u e

  pub joined_lists_symmetric : {xs ys : List ℕ} → JoinedLists m s xs ys → JoinedLists m s ys xs
  joined_lists_symmetric both_end = both_end
  joined_lists_symmetric (both_next j h) = both_next (symmetric j) (joined_lists_symmetric h)

  pub joined_push : {xs ys : List ℕ} {a b : ℕ} → JoinedLists m s xs ys → Joined m s a b → JoinedLists m s (xs ++ (a ∷ [])) (ys ++ (b ∷ []))
  joined_push both_end g = both_next g both_end
  joined_push (both_next j h) g = both_next j (joined_push h g)

  pub joined_by_places : (ps qs : List ℕ) → length ps ≡ length qs → ((k p q : ℕ) → slice_get ps k ≡ Some p → slice_get qs k ≡ Some q → Joined m s p q) →
      JoinedLists m s ps qs
  joined_by_places [] [] e h = both_end
  joined_by_places [] (q ∷ qs) e h = absurd (omega arith)
  joined_by_places (p ∷ ps) [] e h = absurd (omega arith)
  joined_by_places (p ∷ ps) (q ∷ qs) e h = both_next (h 0 p q refl refl) (joined_by_places ps qs (omega arith) (λ k a b x y. h (suc k) a b x y))

  pub joined_lists_reflexive : (cells : List ℕ) → JoinedLists m s cells cells
  joined_lists_reflexive [] = both_end
  joined_lists_reflexive (c ∷ cs) = both_next reflexive (joined_lists_reflexive cs)
