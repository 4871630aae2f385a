-- In a state with a certificate the classes of the unknowns are met, or they bar it. Assumes nothing.
use Rattle.std.proofs.Common.{◌≡◌, ℕ, ◌<◌, true, ◌⊎◌, length, sym, refl, ap, ◌∙◌, inl, inr}
use Rattle.std.proofs.Math.Decide.{ℕ_discrete, dec_lt}
use Rattle.theory.specs.Meaning.{Meaning, Admits, Lawful}
use Rattle.theory.specs.States.{State, Formed}
use Rattle.theory.specs.Certificates.{Shape, no_term, over, Certificate, ClassAdmitted, ClassesAdmitted}
use Rattle.theory.specs.Refusals.{Barred}
use Rattle.theory.specs.SetsByLabel.{SetOfClass, SetLaws}
use Rattle.theory.proofs.Lookups.{nth_below}
use Rattle.theory.proofs.GatheredClasses.{gathered, gathered_set}
use Rattle.theory.proofs.BoundedSearch.{each_below, NotAdmitting, admits_or_not, CommonCode, common_code_or_none}
use Rattle.theory.proofs.SetsByLabel.{set_laws}

module _ {m : Meaning} (lawful : Lawful m) {s : State} (formed : Formed m s) {label rank : ℕ → ℕ} {shape : ℕ → Shape} (certificate : Certificate m s label rank shape) where
  laws : SetLaws m s label shape
  laws = set_laws lawful formed certificate

  -- a class without cells
  no_cells : (r : ℕ) → ((i : ℕ) → i < length s.cells → label i ≡ r → ⊥) → ClassAdmitted m s label r
  no_cells r none_of = record {
    by_terms = λ i set u e j c ps t q. absurd (none_of i (nth_below s.cells i u) e);
    code = lawful.has_leaf.0;
    code_known = lawful.has_leaf.1.is_known;
    by_code = λ free i set u e. absurd (none_of i (nth_below s.cells i u) e);
  }

  beyond : (r : ℕ) → (r < length s.cells → ⊥) → ClassAdmitted m s label r
  beyond r n = no_cells r (λ i i< e. n (rw e at (certificate.label_stands i i<)))

  -- a class that stands: by its set and its shape
  by_shape : (r : ℕ) → r < length s.cells → label r ≡ r → (set : ℕ) → SetOfClass s label r set → (this : Shape) → shape r ≡ this →
      ClassAdmitted m s label r ⊎ Barred m s
  by_shape r r< own set set_of (over d qs) is = go (admits_or_not m set d)
    where
      go : Admits m set d ⊎ NotAdmitting m set d → ClassAdmitted m s label r ⊎ Barred m s
      go (inl admits) = inl (laws.met_by_shape r d set qs is set_of admits)
      go (inr n) = inr (laws.barred_by_shape r d set qs is own set_of (λ admits. n.admits_not (admits n.class n.has_it)))
  by_shape r r< own set set_of no_term is = go (common_code_or_none lawful set)
    where
      go : CommonCode m set ⊎ ((c : ℕ) → m.known c ≡ true → Admits m set c → ⊥) → ClassAdmitted m s label r ⊎ Barred m s
      go (inl found) = inl (laws.met_by_code r found.0 set is set_of found.1 found.2)
      go (inr none_has) = inr (laws.barred_without_code r set r< own set_of none_has)

  class_admitted_or_barred : (r : ℕ) → r < length s.cells → ClassAdmitted m s label r ⊎ Barred m s
  class_admitted_or_barred r r< = go (ℕ_discrete (label r) r)
    where
      go : Dec (label r ≡ r) → ClassAdmitted m s label r ⊎ Barred m s
      go (yes own) = by_shape r r< own (gathered s.cells label r) (gathered_set s label r) (shape r) refl
      go (no n) = inl (no_cells r (λ i i< e. n (ap label (sym e) ∙ certificate.consistent.label_fixed i ∙ e)))

  pub classes_admitted_or_barred : ClassesAdmitted m s label ⊎ Barred m s
  classes_admitted_or_barred = go (each_below (length s.cells) class_admitted_or_barred)
    where
      go : ((r : ℕ) → r < length s.cells → ClassAdmitted m s label r) ⊎ Barred m s → ClassesAdmitted m s label ⊎ Barred m s
      go (inr b) = inr b
      go (inl f) = inl (λ r. at r (dec_lt r (length s.cells)))
        where
          at : (r : ℕ) → Dec (r < length s.cells) → ClassAdmitted m s label r
          at r (yes r<) = f r r<
          at r (no n) = beyond r n
