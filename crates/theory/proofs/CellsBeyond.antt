-- A cell that does not stand is joined to itself alone. Assumes nothing.
use Rattle.std.proofs.Common.{◌≡◌, ℕ, suc, ◌<◌, List, [], ◌∷◌, length, Some, sym, refl, ◌∙◌, inl, arith}
use Rattle.std.proofs.Math.Decide.{dec_lt}
use Rattle.std.specs.List.{slice_get}
use Rattle.theory.specs.Meaning.{Meaning}
use Rattle.theory.specs.IfSo.{if_so}
use Rattle.theory.specs.States.{State, Term, Formed}
use Rattle.theory.specs.Joined.{Joined}
use Rattle.theory.proofs.IfSo.{if_so_yes, if_so_no}
use Rattle.theory.proofs.Lookups.{nth_below}
use Rattle.theory.proofs.Respects.{Respects, joined_same}
use Rattle.theory.proofs.NumberedUnknowns.{place_stands}

module _ {m : Meaning} {s : State} (formed : Formed m s) where
  -- a number that tells the cells apart that do not stand, and no others
  beyond : ℕ → ℕ
  beyond i = if_so (dec_lt i (length s.cells)) 0 (suc i)

  standing_zero : (i : ℕ) → i < length s.cells → beyond i ≡ 0
  unfolding beyond
  standing_zero i h = if_so_yes (dec_lt i (length s.cells)) 0 (suc i) h

  term_zero : (i c : ℕ) (ps : List ℕ) → Term s i c ps → beyond i ≡ 0
  term_zero i c ps t = standing_zero i (nth_below s.cells i t)

  place_zero : (i c : ℕ) (ps : List ℕ) → Term s i c ps → (k p : ℕ) → slice_get ps k ≡ Some p → beyond p ≡ 0
  place_zero i c ps t k p e = standing_zero p (place_stands formed i c ps t k p e)

  beyond_respects : Respects m s beyond (λ x. x)
  beyond_respects = record {
    of_equation = λ a b e. let h = formed.equation_stands a b e in standing_zero a h.0 ∙ sym (standing_zero b h.1);
    of_places = λ i j c d k p q ps qs ti tj e ij hp hq. place_zero i c ps ti k p hp ∙ sym (place_zero j d qs tj k q hq);
    of_list_meets_pair = λ i j e h t l p ij. (
      place_zero i l.code (e ∷ []) l.stands 0 e refl ∙ sym (place_zero j p.code (h ∷ t ∷ []) p.stands 0 h refl),
      place_zero j p.code (h ∷ t ∷ []) p.stands 1 t refl ∙ sym (term_zero j p.code (h ∷ t ∷ []) p.stands),
    );
    of_tail = λ i h t p. inl (place_zero i p.code (h ∷ t ∷ []) p.stands 1 t refl ∙ sym (term_zero i p.code (h ∷ t ∷ []) p.stands));
  }

  pub joined_beyond : (j : ℕ) → Joined m s (length s.cells) j → length s.cells ≡ j
  unfolding beyond
  joined_beyond j joined = go (dec_lt j (length s.cells)) (sym here ∙ joined_same beyond_respects joined)
    where
      here : beyond (length s.cells) ≡ suc (length s.cells)
      here = if_so_no (dec_lt (length s.cells) (length s.cells)) 0 (suc (length s.cells)) (λ h. omega arith)

      go : (d : Dec (j < length s.cells)) → suc (length s.cells) ≡ if_so d 0 (suc j) → length s.cells ≡ j
      go (yes h) e = let q = if_so_yes (yes h) 0 (suc j) h in absurd (omega arith)
      go (no h) e = let q = if_so_no (no h) 0 (suc j) h in omega arith
