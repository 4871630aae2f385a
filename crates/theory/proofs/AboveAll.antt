-- A number above the values of a function at some cells. Assumes nothing.
use Rattle.std.proofs.Common.{◌≡◌, ℕ, zero, suc, ◌+◌, ◌<◌, List, [], ◌∷◌, Some, ap, arith}
use Rattle.std.specs.List.{slice_get}
use Rattle.theory.proofs.Impossible.{impossible}

abbrev pub above_all : (ℕ → ℕ) → List ℕ → ℕ
above_all f [] = 1
above_all f (p ∷ ps) = f p + above_all f ps

above_all_positive : (f : ℕ → ℕ) (ps : List ℕ) → 0 < above_all f ps
above_all_positive f [] = omega arith
above_all_positive f (p ∷ ps) = let h = above_all_positive f ps in omega arith

pub above_all_lt : (f : ℕ → ℕ) (ps : List ℕ) (k p : ℕ) → slice_get ps k ≡ Some p → f p < above_all f ps
above_all_lt f [] k p e = impossible (cc)
above_all_lt f (x ∷ ps) zero p e = let q : f x ≡ f p = ap f (cc) in let h = above_all_positive f ps in omega arith
above_all_lt f (x ∷ ps) (suc k) p e = let h = above_all_lt f ps k p e in omega arith
