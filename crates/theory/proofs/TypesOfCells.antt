-- The types of a list of cells. Assumes nothing.
use Rattle.std.proofs.Common.{◌≡◌, ℕ, zero, suc, ◌≤◌, List, [], ◌∷◌, map, length, Some, refl, ap, arith}
use Rattle.std.specs.List.{slice_get}
use Rattle.theory.specs.Meaning.{Meaning}
use Rattle.theory.specs.Types.{Tree, and, size, sizes, count, types, IsType, AreTypes}
use Rattle.theory.proofs.Impossible.{impossible}

pub types_count : (f : ℕ → Tree) (ps : List ℕ) → count (types f ps) ≡ length ps
types_count f [] = refl
types_count f (p ∷ ps) = ap suc (types_count f ps)

pub types_are_types : (m : Meaning) (f : ℕ → Tree) (ps : List ℕ) → ((p : ℕ) → IsType m (f p)) → AreTypes m (types f ps)
types_are_types m f [] is_type = tt
types_are_types m f (p ∷ ps) is_type = (is_type p, types_are_types m f ps is_type)

pub types_at : (f : ℕ → Tree) (ps qs : List ℕ) (k p q : ℕ) → types f ps ≡ types f qs → slice_get ps k ≡ Some p → slice_get qs k ≡ Some q → f p ≡ f q
types_at f [] qs k p q e hp hq = impossible (cc)
types_at f (x ∷ ps) [] k p q e hp hq = impossible (cc)
types_at f (x ∷ ps) (y ∷ qs) zero p q e hp hq = cc
types_at f (x ∷ ps) (y ∷ qs) (suc k) p q e hp hq = types_at f ps qs k p q (cc) hp hq

pub types_agree : (f g : ℕ → Tree) (ps : List ℕ) → ((k p : ℕ) → slice_get ps k ≡ Some p → f p ≡ g p) → types f ps ≡ types g ps
types_agree f g [] h = refl
types_agree f g (p ∷ ps) h = let a = h 0 p refl in let b = types_agree f g ps (λ k q e. h (suc k) q e) in cc

pub types_map : (f : ℕ → Tree) (g : ℕ → ℕ) (ps : List ℕ) → types (λ p. f (g p)) ps ≡ types f (map g ps)
types_map f g [] = refl
types_map f g (p ∷ ps) = ap (and (f (g p))) (types_map f g ps)

pub size_at : (f : ℕ → Tree) (ps : List ℕ) (k p : ℕ) → slice_get ps k ≡ Some p → size (f p) ≤ sizes (types f ps)
size_at f [] k p e = impossible (cc)
size_at f (x ∷ ps) zero p e = let q : x ≡ p = cc in rw (← q) (omega arith)
size_at f (x ∷ ps) (suc k) p e = let h = size_at f ps k p e in omega arith
