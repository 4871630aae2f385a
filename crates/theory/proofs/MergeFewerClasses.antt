-- A merge leaves one class less. Assumes nothing.
use Rattle.std.proofs.Common.{◌≡◌, ℕ, ◌<◌, List}
use Rattle.std.proofs.Math.Decide.{ℕ_discrete}
use Rattle.theory.specs.Meaning.{Meaning}
use Rattle.theory.specs.States.{State}
use Rattle.theory.specs.Certificates.{Shape}
use Rattle.theory.specs.Updates.{sent}
use Rattle.theory.specs.Closures.{Closure, Covers, class_count, after_merge}
use Rattle.theory.proofs.Counts.{count_below_lt}
use Rattle.theory.proofs.MergedLabels.{merged_own, merged_gone}

pub merge_fewer_classes : {m : Meaning} {s : State} (v : Closure) → Covers m s v → (a b : ℕ) (rest : List (ℕ × ℕ)) → (v.label a ≡ v.label b → ⊥) →
    (merged : Shape) (new : List (ℕ × ℕ)) (n : ℕ) → v.label b < n →
    class_count (after_merge v a b rest merged new).label n < class_count v.label n
unfolding after_merge
merge_fewer_classes v covers a b rest apart merged new n b< =
    count_below_lt (λ i. ℕ_discrete (sent (v.label b) (v.label a) (v.label i)) i) (λ i. ℕ_discrete (v.label i) i)
    (merged_own v.label covers.label_fixed a b apart) (v.label b) (covers.label_fixed b) (merged_gone v.label covers.label_fixed a b apart) n b<
