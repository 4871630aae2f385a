-- The terms of a class agree two by two: what a consistent state comes to, without its shapes. Assumes nothing.
use Rattle.std.proofs.Common.{◌≡◌, ℕ, ◌<◌, ◌⊎◌, List, [], ◌∷◌, map, Some, refl, inl, inr}
use Rattle.std.specs.List.{slice_get}
use Rattle.theory.specs.Meaning.{Meaning}
use Rattle.theory.specs.States.{State, Term, Equation}
use Rattle.theory.specs.Joined.{PairTerm, ListTerm, Joined, symmetric, transitive}
use Rattle.theory.specs.Codes.{CodesAgree}
use Rattle.theory.proofs.Lookups.{same_map_nth}
use Rattle.theory.proofs.Respects.{Respects, joined_same}

-- place k of cell i is p, the second place of a Pair, and stands in the class of that Pair
pub record Loops (m : Meaning) (s : State) (label : ℕ → ℕ) (i k p : ℕ) : Type 0 where
  pub first : ℕ
  pub pair : PairTerm m s i first p
  pub place : k ≡ 1
  pub round : label p ≡ label i

pub record Pairwise (m : Meaning) (s : State) (label rank : ℕ → ℕ) : Type 0 where
  pub label_fixed : (i : ℕ) → label (label i) ≡ label i
  pub equations : (a b : ℕ) → Equation s a b → label a ≡ label b
  pub codes : (i j c d : ℕ) (ps qs : List ℕ) → Term s i c ps → Term s j d qs → label i ≡ label j → CodesAgree m (m.plain c) (m.plain d)
  pub places : (i j c d : ℕ) (ps qs : List ℕ) → Term s i c ps → Term s j d qs → label i ≡ label j → m.plain c ≡ m.plain d →
      map label ps ≡ map label qs
  pub list_meets_pair : (i j element first tail : ℕ) → ListTerm m s i element → PairTerm m s j first tail → label i ≡ label j →
      (label element ≡ label first) × (label tail ≡ label j)
  pub falls : (i c : ℕ) (ps : List ℕ) → Term s i c ps → (k p : ℕ) → slice_get ps k ≡ Some p → (rank (label p) < rank (label i)) ⊎ Loops m s label i k p

module _ {m : Meaning} {s : State} {label rank : ℕ → ℕ} (pairwise : Pairwise m s label rank) where
  labels_respect : Respects m s label rank
  labels_respect = record {
    of_equation = pairwise.equations;
    of_places = λ i j c d k p q ps qs ti tj e ij hp hq. same_map_nth label ps qs k p q (pairwise.places i j c d ps qs ti tj ij e) hp hq;
    of_list_meets_pair = pairwise.list_meets_pair;
    of_tail = λ i first tail p. turn (pairwise.falls i p.code (first ∷ tail ∷ []) p.stands 1 tail refl);
  }
    where
      turn : {i tail : ℕ} → (rank (label tail) < rank (label i)) ⊎ Loops m s label i 1 tail →
          (label tail ≡ label i) ⊎ (rank (label tail) < rank (label i))
      turn (inl h) = inr h
      turn (inr l) = inl l.round

  pub joined_cells_have_one_label : {a b : ℕ} → Joined m s a b → label a ≡ label b
  joined_cells_have_one_label = joined_same labels_respect

pub same_label_joined : {m : Meaning} {s : State} {label : ℕ → ℕ} → ((i : ℕ) → Joined m s i (label i)) → (a b : ℕ) → label a ≡ label b →
    Joined m s a b
same_label_joined label_joined a b e = transitive (label_joined a) (rw e (symmetric (label_joined b)))
