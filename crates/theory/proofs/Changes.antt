-- What the moves of a closure change, and that no more than that is to be looked at again. Assumes nothing.
use Rattle.std.proofs.Common.{◌≡◌, ℕ, ◌⊎◌, List, [], ◌∷◌, sym, refl, ap, ◌∙◌, inl, inr, arith}
use Rattle.std.proofs.Math.Decide.{ℕ_discrete}
use Rattle.theory.specs.Meaning.{Meaning, Lawful}
use Rattle.theory.specs.States.{State}
use Rattle.theory.specs.Certificates.{Shape, over, Falling, ClassAdmitted, ClassesAdmitted}
use Rattle.theory.specs.Updates.{sent, replaced}
use Rattle.theory.specs.Walks.{In}
use Rattle.theory.specs.Closures.{Closure, after_merge, after_reshape}
use Rattle.theory.specs.Changes.{Changed, ChangeLaws}
use Rattle.theory.proofs.Members.{decide_in, in_first, in_rest}
use Rattle.theory.proofs.Updates.{sent_hit, sent_miss, replaced_miss}
use Rattle.theory.proofs.MergedLabels.{merged_fixed, merged_own}

module _ {label : ℕ → ℕ} {shape : ℕ → Shape} (v : Closure) (changed : List ℕ) (so_far : Changed label v.label shape v.shape changed) where
  reshaped_or_in : (r : ℕ) (new : Shape) (q : ℕ) → v.label q ≡ q → (replaced v.shape r new q ≡ shape q) ⊎ In q (r ∷ changed)
  reshaped_or_in r new q own = go (ℕ_discrete q r) (so_far.reshaped q own)
    where
      go : Dec (q ≡ r) → (v.shape q ≡ shape q) ⊎ In q changed → (replaced v.shape r new q ≡ shape q) ⊎ In q (r ∷ changed)
      go (yes e) p = inr (in_first q changed e)
      go (no n) (inl p) = inl (replaced_miss v.shape r new q n ∙ p)
      go (no n) (inr p) = inr (in_rest q r changed p)

  merge_changes : (a b : ℕ) (rest : List (ℕ × ℕ)) (merged : Shape) (new : List (ℕ × ℕ)) → (v.label a ≡ v.label b → ⊥) →
      Changed label (after_merge v a b rest merged new).label shape (after_merge v a b rest merged new).shape (v.label a ∷ changed)
  unfolding after_merge
  merge_changes a b rest merged new apart = record {
    label_fixed = merged_fixed v.label so_far.label_fixed a b apart;
    relabelled = λ q. go q (ℕ_discrete (v.label q) (v.label b)) (so_far.relabelled q);
    reshaped = λ r own. reshaped_or_in (v.label a) merged r (merged_own v.label so_far.label_fixed a b apart r own);
    coarser = λ x y e. ap (sent (v.label b) (v.label a)) (so_far.coarser x y e);
  }
    where
      go : (q : ℕ) → Dec (v.label q ≡ v.label b) → (v.label q ≡ label q) ⊎ In (v.label q) changed →
          (sent (v.label b) (v.label a) (v.label q) ≡ label q) ⊎ In (sent (v.label b) (v.label a) (v.label q)) (v.label a ∷ changed)
      go q (yes e) p = inr (in_first _ changed (sent_hit (v.label b) (v.label a) (v.label q) e))
      go q (no n) (inl p) = inl (sent_miss (v.label b) (v.label a) (v.label q) n ∙ p)
      go q (no n) (inr p) = inr (rw (sent_miss (v.label b) (v.label a) (v.label q) n) (in_rest (v.label q) (v.label a) changed p))

  reshape_changes : (r : ℕ) (new : Shape) → Changed label (after_reshape v r new).label shape (after_reshape v r new).shape (r ∷ changed)
  unfolding after_reshape
  reshape_changes r new = record {
    label_fixed = so_far.label_fixed;
    relabelled = λ q. go q (so_far.relabelled q);
    reshaped = λ q own. reshaped_or_in r new q own;
    coarser = so_far.coarser;
  }
    where
      go : (q : ℕ) → (v.label q ≡ label q) ⊎ In (v.label q) changed → (v.label q ≡ label q) ⊎ In (v.label q) (r ∷ changed)
      go q (inl p) = inl p
      go q (inr p) = inr (in_rest (v.label q) r changed p)

pub moves_change_few : (label : ℕ → ℕ) (shape : ℕ → Shape) → ((i : ℕ) → label (label i) ≡ label i) → ChangeLaws label shape
moves_change_few label shape fixed = record {
  starts = record { label_fixed = fixed; relabelled = λ q. inl refl; reshaped = λ r own. inl refl; coarser = λ a b e. e };
  merges = λ v changed so_far a b rest merged new apart. merge_changes v changed so_far a b rest merged new apart;
  reshapes = λ v changed so_far r new. reshape_changes v changed so_far r new;
}

module _ {label label' : ℕ → ℕ} {shape shape' : ℕ → Shape} {changed : List ℕ} (changes : Changed label label' shape shape' changed) where
  -- the label of a cell is its own
  own_label : (q r : ℕ) → label' q ≡ r → label' r ≡ r
  own_label q r e = ap label' (sym e) ∙ changes.label_fixed q ∙ e

  pub loops_are_in_changed_classes : {rank : ℕ → ℕ} → Falling label shape rank → (r pair first tail : ℕ) → shape' r ≡ over pair (first ∷ tail ∷ []) →
      label' tail ≡ r → In r changed
  loops_are_in_changed_classes {rank} falling r pair first tail is round = go (changes.reshaped r (own_label tail r round)) (changes.relabelled tail)
    where
      go : (shape' r ≡ shape r) ⊎ In r changed → (label' tail ≡ label tail) ⊎ In (label' tail) changed → In r changed
      go (inr p) q = p
      go (inl p) (inr q) = rw round at q
      go (inl p) (inl q) =
          let low = falling r pair (first ∷ tail ∷ []) (sym p ∙ is) 1 tail refl in
          let same : rank (label tail) ≡ rank r = ap rank (sym q ∙ round) in
          absurd (omega arith)

  pub changed_classes_are_admitted : {m : Meaning} {s : State} → Lawful m → ClassesAdmitted m s label →
      ((r : ℕ) → In r changed → label' r ≡ r → ClassAdmitted m s label' r) →
      ClassesAdmitted m s label'
  changed_classes_are_admitted {m} {s} lawful old new r = go (decide_in r changed) (ℕ_discrete (label' r) r)
    where
      same_label : (In r changed → ⊥) → (q : ℕ) → label' q ≡ r → label q ≡ r
      same_label n q e = at (changes.relabelled q)
        where
          at : (label' q ≡ label q) ⊎ In (label' q) changed → label q ≡ r
          at (inl p) = sym p ∙ e
          at (inr p) = absurd (n (rw e at p))

      go : Dec (In r changed) → Dec (label' r ≡ r) → ClassAdmitted m s label' r
      go (yes p) (yes own) = new r p own
      go (yes p) (no n) = record {
        by_terms = λ i set u e. absurd (n (own_label i r e));
        code = lawful.has_leaf.0;
        code_known = lawful.has_leaf.1.is_known;
        by_code = λ free i set u e. absurd (n (own_label i r e));
      }
      go (no n) own = record {
        by_terms = λ i set u e j c ps t q. (old r).by_terms i set u (same_label n i e) j c ps t (same_label n j q);
        code = (old r).code;
        code_known = (old r).code_known;
        by_code = λ free i set u e.
            let here = same_label n i e in
            (old r).by_code (λ j c ps t q. free j c ps t (changes.coarser j i (q ∙ sym here) ∙ e)) i set u here;
      }
