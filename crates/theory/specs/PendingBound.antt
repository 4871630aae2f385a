-- A bound for what is pending in a closure. Assumes nothing.
use Rattle.std.specs.Prelude.{◌≡◌, ℕ, ◌+◌, ◌<◌, ◌≤◌, List, [], ◌∷◌, length, ◌≢◌}
use Rattle.std.proofs.Math.Decide.{ℕ_discrete}
use Rattle.theory.specs.Meaning.{Meaning}
use Rattle.theory.specs.IfSo.{if_so}
use Rattle.theory.specs.States.{State}
use Rattle.theory.specs.Certificates.{Shape, over}
use Rattle.theory.specs.Counts.{sum_below}
use Rattle.theory.specs.ClassGraph.{parts_of}
use Rattle.theory.specs.Closures.{Closure, Closing, Merges, after_merge, after_reshape}

-- How many cells the shape of a class names.
unfoldable pub places_at : (ℕ → ℕ) → (ℕ → Shape) → ℕ → ℕ
places_at label shape i = if_so (ℕ_discrete (label i) i) (length (parts_of (shape i))) 0

-- And those of all classes together.
abbrev pub places_held : State → Closure → ℕ
places_held s v = sum_below (places_at v.label v.shape) (length s.cells)

-- A bound for what is pending: the cells that shapes name and the pending pairs, together, never rise; a merge makes them fewer.
pub record PendingLaws (m : Meaning) (s : State) : Type 0 where
  pub merges : (v : Closure) → Closing m s v → (a b : ℕ) (rest : List (ℕ × ℕ)) → v.pending ≡ (a, b) ∷ rest → (v.label a ≢ v.label b) →
      (merged : Shape) (new : List (ℕ × ℕ)) → Merges m (v.label a) (v.shape (v.label a)) (v.shape (v.label b)) merged new →
      places_held s (after_merge v a b rest merged new) + length (after_merge v a b rest merged new).pending < places_held s v + length v.pending
  pub reshapes : (v : Closure) (r pair list first tail : ℕ) → v.shape r ≡ over pair (first ∷ tail ∷ []) →
      places_held s (after_reshape v r (over list (first ∷ []))) ≤ places_held s v

abbrev pub PendingIsBounded : Type 0
PendingIsBounded = (m : Meaning) (s : State) → PendingLaws m s
