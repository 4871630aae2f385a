-- The cells that shapes name and the pending pairs, together, never rise. Assumes nothing.
use Rattle.std.proofs.Common.{◌≡◌, ℕ, ◌+◌, ◌<◌, ◌≤◌, List, [], ◌∷◌, length, refl, ap, ◌∙◌, arith, length-append}
use Rattle.std.proofs.Math.Decide.{ℕ_discrete}
use Rattle.std.specs.List.{slice_get}
use Rattle.theory.specs.Meaning.{Meaning}
use Rattle.theory.specs.States.{State}
use Rattle.theory.specs.Certificates.{Shape, over}
use Rattle.theory.specs.Updates.{sent, replaced}
use Rattle.theory.specs.ClassGraph.{parts_of}
use Rattle.theory.specs.Closures.{Closure, Closing, Merges, neither, only_one, only_other, same_codes, pair_list, list_pair, after_merge, after_reshape}
use Rattle.theory.specs.PendingBound.{places_at, places_held, PendingLaws}
use Rattle.theory.proofs.IfSo.{if_so_yes, if_so_no}
use Rattle.theory.proofs.Lookups.{pair_up_few}
use Rattle.theory.proofs.Updates.{sent_miss, replaced_hit, replaced_miss}
use Rattle.theory.proofs.MergedLabels.{merged_own, merged_gone}
use Rattle.theory.proofs.Sums.{sum_below_le, sum_falls_at_two}

merges_places : {m : Meaning} {r : ℕ} {one other merged : Shape} {new : List (ℕ × ℕ)} → Merges m r one other merged new →
    length (parts_of merged) + length new ≤ length (parts_of one) + length (parts_of other)
merges_places neither = omega arith
merges_places (only_one d qs) = omega arith
merges_places (only_other d qs) = omega arith
merges_places (same_codes d qs qs' e) = let z = pair_up_few qs qs' in omega arith
merges_places (pair_list pair list first tail element named) = omega arith
merges_places (list_pair pair list first tail element named) = omega arith

places_at_own : (label : ℕ → ℕ) (shape : ℕ → Shape) (i : ℕ) → label i ≡ i → places_at label shape i ≡ length (parts_of (shape i))
unfolding places_at
places_at_own label shape i e = if_so_yes (ℕ_discrete (label i) i) (length (parts_of (shape i))) 0 e

places_at_other : (label : ℕ → ℕ) (shape : ℕ → Shape) (i : ℕ) → (label i ≡ i → ⊥) → places_at label shape i ≡ 0
unfolding places_at
places_at_other label shape i n = if_so_no (ℕ_discrete (label i) i) (length (parts_of (shape i))) 0 n

-- fewer cells at no more labels
places_at_le : (label label' : ℕ → ℕ) (shape shape' : ℕ → Shape) (i : ℕ) → (label' i ≡ i → label i ≡ i) →
    length (parts_of (shape' i)) ≤ length (parts_of (shape i)) →
    places_at label' shape' i ≤ places_at label shape i
places_at_le label label' shape shape' i keeps few = go (ℕ_discrete (label' i) i)
  where
    go : Dec (label' i ≡ i) → places_at label' shape' i ≤ places_at label shape i
    go (yes e) = rw (places_at_own label' shape' i e, places_at_own label shape i (keeps e)) few
    go (no n) = rw (places_at_other label' shape' i n) (omega arith)

module _ {m : Meaning} {s : State} (v : Closure) (closing : Closing m s v) (a b : ℕ) (rest : List (ℕ × ℕ)) (pending_is : v.pending ≡ (a, b) ∷ rest) (apart : v.label a ≡ v.label b → ⊥)
    (merged : Shape) (new : List (ℕ × ℕ)) (merges : Merges m (v.label a) (v.shape (v.label a)) (v.shape (v.label b)) merged new) where
  abbrev label' : ℕ → ℕ
  label' i = sent (v.label b) (v.label a) (v.label i)

  abbrev shape' : ℕ → Shape
  shape' = replaced v.shape (v.label a) merged

  own_a : label' (v.label a) ≡ v.label a
  own_a = ap (sent (v.label b) (v.label a)) (closing.covers.label_fixed a) ∙ sent_miss (v.label b) (v.label a) (v.label a) apart

  others : (i : ℕ) → (i ≡ v.label a → ⊥) → (i ≡ v.label b → ⊥) → places_at label' shape' i ≤ places_at v.label v.shape i
  others i na nb =
      places_at_le v.label label' v.shape shape' i (merged_own v.label closing.covers.label_fixed a b apart i)
      (rw (replaced_miss v.shape (v.label a) merged i na) (omega arith))

  at_two : places_at label' shape' (v.label a) + places_at label' shape' (v.label b) + length new ≤ places_at v.label v.shape (v.label a) + places_at v.label v.shape (v.label b)
  at_two =
      let x = places_at_own label' shape' (v.label a) own_a in
      let x' = ap (λ this. length (parts_of this)) (replaced_hit v.shape (v.label a) merged (v.label a) refl) in
      let y = places_at_other label' shape' (v.label b) (merged_gone v.label closing.covers.label_fixed a b apart) in
      let p = places_at_own v.label v.shape (v.label a) (closing.covers.label_fixed a) in
      let q = places_at_own v.label v.shape (v.label b) (closing.covers.label_fixed b) in
      let r = merges_places merges in
      omega arith

  merge_places : places_held s (after_merge v a b rest merged new) + length (after_merge v a b rest merged new).pending < places_held s v + length v.pending
  unfolding after_merge
  merge_places =
      let stands = closing.in_range.pending_stands 0 a b (ap (λ (xs : List (ℕ × ℕ)). slice_get xs 0) pending_is) in
      let a< = closing.in_range.label_stands a stands.0 in
      let b< = closing.in_range.label_stands b stands.1 in
      let p = sum_falls_at_two (places_at v.label v.shape) (places_at label' shape') (v.label a) (v.label b) (length new) (length s.cells) apart a< b< others at_two in
      let l = ap length pending_is in
      let n = length-append new rest in
      omega arith

pub pending_is_bounded : (m : Meaning) (s : State) → PendingLaws m s
pending_is_bounded m s = record {
  merges = λ v closing a b rest is apart merged new merges. merge_places v closing a b rest is apart merged new merges;
  reshapes = λ v r pair list first tail is.
      unfold after_reshape in sum_below_le (places_at v.label v.shape) (places_at v.label (replaced v.shape r (over list (first ∷ []))))
      (λ i. places_at_le v.label v.label v.shape (replaced v.shape r (over list (first ∷ []))) i (λ e. e) (go v r pair list first tail is i (ℕ_discrete i r))) (length s.cells);
}
  where
    go : (v : Closure) (r pair list first tail : ℕ) → v.shape r ≡ over pair (first ∷ tail ∷ []) → (i : ℕ) → Dec (i ≡ r) →
        length (parts_of (replaced v.shape r (over list (first ∷ [])) i)) ≤ length (parts_of (v.shape i))
    go v r pair list first tail is i (yes e) =
        let x = ap (λ this. length (parts_of this)) (replaced_hit v.shape r (over list (first ∷ [])) i e) in
        let y = ap (λ this. length (parts_of this)) (ap v.shape e ∙ is) in
        omega arith
    go v r pair list first tail is i (no n) = rw (replaced_miss v.shape r (over list (first ∷ [])) i n) (omega arith)
