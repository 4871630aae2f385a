-- A merge of two classes loses nothing of the state. Assumes nothing.
use Rattle.std.proofs.Common.{◌≡◌, ℕ, suc, List, [], ◌∷◌, ◌++◌, length, Some, sym, refl, ap, ◌∙◌, arith}
use Rattle.std.proofs.Math.Decide.{ℕ_discrete}
use Rattle.std.specs.List.{slice_get}
use Rattle.theory.specs.Meaning.{Meaning, Lawful}
use Rattle.theory.specs.States.{State}
use Rattle.theory.specs.Certificates.{Shape, over}
use Rattle.theory.specs.Updates.{sent, replaced}
use Rattle.theory.specs.Closures.{Closure, Linked, by_label, by_pending, LinkedLists, none_left, next_linked, HeldLinked, TermLinked, Covers, pair_up, Merges, neither, only_one, only_other, same_codes, pair_list, list_pair, after_merge}
use Rattle.theory.proofs.Impossible.{impossible}
use Rattle.theory.proofs.Lookups.{nth_front, nth_later, EachPair, each_next}
use Rattle.theory.proofs.Updates.{sent_hit, sent_miss, replaced_hit, replaced_miss}
use Rattle.theory.proofs.LinkedCells.{linked_into, linked_lists_back, held_into, held_over, held_list}
use Rattle.theory.proofs.MergedLabels.{merged_a, merged_b, merged_fixed}

abbrev HeldAgain : Meaning → (ℕ → ℕ) → List (ℕ × ℕ) → ℕ → ℕ → List ℕ → Shape → Type 0
HeldAgain m label pending r c ps h = (d : ℕ) × (qs : List ℕ) × (h ≡ over d qs) × HeldLinked m label pending r c ps d qs

-- what was held to either of two shapes is held to what they merge to
module _ {m : Meaning} (lawful : Lawful m) {label : ℕ → ℕ} {pending : List (ℕ × ℕ)} where
  pair_up_linked : (qs qs' : List ℕ) → length qs ≡ length qs' → ((k x y : ℕ) → slice_get (pair_up qs qs') k ≡ Some (x, y) → Linked label pending x y) →
      LinkedLists label pending qs qs'
  pair_up_linked [] [] e f = none_left
  pair_up_linked [] (q ∷ qs) e f = absurd (omega arith)
  pair_up_linked (q ∷ qs) [] e f = absurd (omega arith)
  pair_up_linked (q ∷ qs) (q' ∷ qs') e f = next_linked (f 0 q q' refl) (pair_up_linked qs qs' (omega arith) (λ k x y h. f (suc k) x y h))

  merged_one : {r c d : ℕ} {ps qs : List ℕ} {one other h : Shape} {new : List (ℕ × ℕ)} → Merges m r one other h new →
      ((k x y : ℕ) → slice_get new k ≡ Some (x, y) → Linked label pending x y) →
      one ≡ over d qs → HeldLinked m label pending r c ps d qs → HeldAgain m label pending r c ps h
  merged_one neither f e x = impossible (cc)
  merged_one (only_one d' qs') f e x = (_, _, e, x)
  merged_one (only_other d' qs') f e x = impossible (cc)
  merged_one (same_codes d' qs₁ qs₂ l) f e x = (_, _, e, x)
  merged_one {r} {c} {d} {ps} {qs} (pair_list pair list h t e' named) f e x =
      let code : d ≡ pair = cc in
      let parts : qs ≡ h ∷ t ∷ [] = cc in
      (list, e' ∷ [], refl, held_list lawful named (f 0 h e' refl) (f 1 t _ refl) (rw (code, parts) at x))
  merged_one (list_pair pair list h t e' named) f e x = (_, _, e, x)

  merged_other : {r c d : ℕ} {ps qs : List ℕ} {one other h : Shape} {new : List (ℕ × ℕ)} → Merges m r one other h new →
      ((k x y : ℕ) → slice_get new k ≡ Some (x, y) → Linked label pending x y) →
      other ≡ over d qs → HeldLinked m label pending r c ps d qs → HeldAgain m label pending r c ps h
  merged_other neither f e x = impossible (cc)
  merged_other (only_one d' qs') f e x = impossible (cc)
  merged_other (only_other d' qs') f e x = (_, _, e, x)
  merged_other {r} {c} {d} {ps} {qs} (same_codes d' qs₁ qs₂ l) f e x =
      let code : d ≡ d' = cc in
      let parts : qs ≡ qs₂ = cc in
      (d', qs₁, refl, held_over lawful (linked_lists_back (pair_up_linked qs₁ qs₂ l f)) (rw (code, parts) at x))
  merged_other (pair_list pair list h t e' named) f e x = (_, _, e, x)
  merged_other {r} {c} {d} {ps} {qs} (list_pair pair list h t e' named) f e x =
      let code : d ≡ pair = cc in
      let parts : qs ≡ h ∷ t ∷ [] = cc in
      (list, e' ∷ [], refl, held_list lawful named (f 0 h e' refl) (f 1 t _ refl) (rw (code, parts) at x))

module _ {m : Meaning} (lawful : Lawful m) {s : State} (v : Closure) (g : Covers m s v) (a b : ℕ) (rest : List (ℕ × ℕ)) (pending_is : v.pending ≡ (a, b) ∷ rest)
    (apart : v.label a ≡ v.label b → ⊥) (h : Shape) (new : List (ℕ × ℕ)) (merge : Merges m (v.label a) (v.shape (v.label a)) (v.shape (v.label b)) h new) where
  abbrev label' : ℕ → ℕ
  label' i = sent (v.label b) (v.label a) (v.label i)

  abbrev pending' : List (ℕ × ℕ)
  pending' = new ++ rest

  label_label : (i : ℕ) → label' (v.label i) ≡ label' i
  label_label i = ap (sent (v.label b) (v.label a)) (g.label_fixed i)

  old_pending : EachPair (Linked label' pending') v.pending
  old_pending = rw pending_is (each_next (Linked label' pending') a b rest first (λ k x y e. let j = nth_later new rest k (x, y) e in by_pending j.0 j.1))
    where
      first : Linked label' pending' a b
      first = by_label (merged_a v.label g.label_fixed a b apart ∙ sym (merged_b v.label g.label_fixed a b apart))

  into : (x y : ℕ) → Linked v.label v.pending x y → Linked label' pending' x y
  into x y l = linked_into (λ x y e. ap (sent (v.label b) (v.label a)) e) old_pending l

  new_pending : (k x y : ℕ) → slice_get new k ≡ Some (x, y) → Linked label' pending' x y
  new_pending k x y e = by_pending k (nth_front new rest k (x, y) e)

  -- (with its term in the goal `rw` builds no well-typed family, so the label is a variable here)
  at_a : (i c : ℕ) (ps : List ℕ) → label' i ≡ v.label a → HeldAgain m label' pending' (v.label a) c ps h →
      TermLinked m (record { label = label'; shape = replaced v.shape (v.label a) h; pending = pending' }) (label' i) c ps
  at_a i c ps x r = record { code = r.0; parts = r.1; shape_is = replaced_hit _ _ _ _ x ∙ r.2; held = rw x r.3 }

  reheld : (i c : ℕ) (ps : List ℕ) → TermLinked m v (v.label i) c ps →
      TermLinked m (record { label = label'; shape = replaced v.shape (v.label a) h; pending = pending' }) (label' i) c ps
  reheld i c ps o = go (ℕ_discrete (v.label i) (v.label b)) (ℕ_discrete (v.label i) (v.label a))
    where
      held : HeldLinked m label' pending' (label' i) c ps o.code o.parts
      held = held_into into (by_label (label_label i ∙ sym (merged_fixed v.label g.label_fixed a b apart i))) o.held

      go : Dec (v.label i ≡ v.label b) → Dec (v.label i ≡ v.label a) →
          TermLinked m (record { label = label'; shape = replaced v.shape (v.label a) h; pending = pending' }) (label' i) c ps
      go (yes e) d =
          let x : label' i ≡ v.label a = sent_hit _ _ _ e in
          at_a i c ps x (merged_other lawful merge new_pending (ap v.shape (sym e) ∙ o.shape_is) (rw x at held))
      go (no n) (yes e) =
          let x : label' i ≡ v.label a = sent_miss _ _ _ n ∙ e in
          at_a i c ps x (merged_one lawful merge new_pending (ap v.shape (sym e) ∙ o.shape_is) (rw x at held))
      go (no n) (no p) =
          let x : label' i ≡ v.label i = sent_miss _ _ _ n in
          record { code = o.code; parts = o.parts; shape_is = rw x (replaced_miss _ _ _ _ p ∙ o.shape_is); held = held }

  pub merge_covers : Covers m s (after_merge v a b rest h new)
  unfolding after_merge
  merge_covers = record {
    label_fixed = merged_fixed v.label g.label_fixed a b apart;
    equations = λ x y e. into x y (g.equations x y e);
    terms_linked = λ i c ps t. reheld i c ps (g.terms_linked i c ps t);
  }
