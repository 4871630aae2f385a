-- Labels after a merge of two classes. Assumes nothing.
use Rattle.std.proofs.Common.{◌≡◌, ℕ, sym, refl, ap, ◌∙◌}
use Rattle.std.proofs.Math.Decide.{ℕ_discrete}
use Rattle.theory.specs.Updates.{sent}
use Rattle.theory.proofs.Updates.{sent_hit, sent_miss}

module _ (label : ℕ → ℕ) (fixed : (i : ℕ) → label (label i) ≡ label i) (a b : ℕ) (apart : label a ≡ label b → ⊥) where
  abbrev merged_label : ℕ → ℕ
  merged_label i = sent (label b) (label a) (label i)

  pub merged_a : merged_label a ≡ label a
  merged_a = sent_miss (label b) (label a) (label a) apart

  pub merged_b : merged_label b ≡ label a
  merged_b = sent_hit (label b) (label a) (label b) refl

  pub merged_fixed : (i : ℕ) → merged_label (merged_label i) ≡ merged_label i
  merged_fixed i = go (ℕ_discrete (label i) (label b))
    where
      go : Dec (label i ≡ label b) → merged_label (merged_label i) ≡ merged_label i
      go (yes e) =
          let x : merged_label i ≡ label a = sent_hit (label b) (label a) (label i) e in
          let y = fixed a in
          rw x (rw y merged_a)
      go (no n) =
          let x : merged_label i ≡ label i = sent_miss (label b) (label a) (label i) n in
          let y = fixed i in
          rw x (rw y x)

  -- what is its own label after the merge was so before
  pub merged_own : (i : ℕ) → merged_label i ≡ i → label i ≡ i
  merged_own i e = go (ℕ_discrete (label i) (label b))
    where
      go : Dec (label i ≡ label b) → label i ≡ i
      go (yes p) =
          let x : label a ≡ i = sym (sent_hit (label b) (label a) (label i) p) ∙ e in
          absurd (apart (sym (fixed a) ∙ ap label x ∙ p))
      go (no n) = sym (sent_miss (label b) (label a) (label i) n) ∙ e

  -- and the label of b is so no more
  pub merged_gone : merged_label (label b) ≡ label b → ⊥
  merged_gone e = apart (sym (sent_hit (label b) (label a) (label (label b)) (fixed b)) ∙ e)
