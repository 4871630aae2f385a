-- The set of a class of cells decides whether the classes of its unknowns are met. Assumes nothing.
use Rattle.std.proofs.Common.{◌≡◌, ℕ, T, ◌⊎◌, List, sym, ap, ◌∙◌, inl, inr}
use Rattle.std.proofs.Math.Decide.{ℕ_discrete}
use Rattle.std.specs.Int.Bits.{bit_or}
use Rattle.theory.specs.Meaning.{has, layered_by, Meaning, Admits, Lawful}
use Rattle.theory.specs.States.{State, Term, Formed}
use Rattle.theory.specs.Joined.{transitive}
use Rattle.theory.specs.Certificates.{Shape, no_term, over, Held, same_code, looping_pair, TermHeld, Certificate, Termless}
use Rattle.theory.specs.Refusals.{Barred, not_admitted, no_common_code}
use Rattle.theory.specs.Updates.{sent}
use Rattle.theory.specs.SetsByLabel.{ClassOfUnknown, SetOfClass, SetLaws, SetMergeLaws}
use Rattle.theory.proofs.Impossible.{impossible}
use Rattle.theory.proofs.Layers.{layers_of}
use Rattle.theory.proofs.Pairwise.{same_label_joined}
use Rattle.theory.proofs.HeldPairwise.{consistent_pairwise, one_label}
use Rattle.theory.proofs.SetsAsNumbers.{has_or_left, has_or_right, has_or, small_has_low, low_has_small}
use Rattle.theory.proofs.GatheredClasses.{set_union}
use Rattle.theory.proofs.Updates.{sent_hit, sent_miss}
use Rattle.theory.proofs.ShapesMerge.{TermBehind, term_behind}
use Rattle.theory.proofs.BoundedSearch.{NotAdmitting, admits_or_not}

module _ {m : Meaning} (lawful : Lawful m) {s : State} (formed : Formed m s) {label rank : ℕ → ℕ} {shape : ℕ → Shape} (certificate : Certificate m s label rank shape) where
  -- a term of the class r has the code of its shape, or is a Pair where that is List
  admits_term : (r d j c : ℕ) (ps qs : List ℕ) → shape r ≡ over d qs → Term s j c ps → label j ≡ r → (k : ℕ) → T (has (m.classes d) k) →
      T (has (m.classes (m.plain c)) k)
  admits_term r d j c ps qs is t e k h = go o.held
    where
      o : TermHeld m label shape r c ps
      o = rw e at (certificate.consistent.terms_held j c ps t)

      code : o.code ≡ d
      code = let a = o.shape_is in cc

      go : Held m label r c ps o.code o.parts → T (has (m.classes (m.plain c)) k)
      go (same_code x y) = let q : m.plain c ≡ d = x ∙ code in rw q h
      go (looping_pair first tail element named x y u v) =
          let same = (layers_of lawful (m.plain c) o.code named).alike k in
          rw (same, code) h

  -- the term behind a shape
  barred_by_term : (r d set : ℕ) (qs : List ℕ) → label r ≡ r → SetOfClass s label r set → NotAdmitting m set d → TermBehind m s r d → Barred m s
  barred_by_term r d set qs own set_of n t =
      let u = set_of.only n.class n.has_it in
      let j = transitive (same_label_joined certificate.label_joined u.cell r (u.in_class ∙ sym own)) t.joined in
      not_admitted u.cell t.cell u.set t.code t.parts u.stands j t.stands (λ admits. n.admits_not (go t.code_is (admits n.class u.has_it)))
    where
      go : (m.plain t.code ≡ d) ⊎ (m.layering ≡ layered_by (m.plain t.code) d) → T (has (m.classes (m.plain t.code)) n.class) →
          T (has (m.classes d) n.class)
      go (inl e) h = rw e at h
      go (inr l) h = let same = (layers_of lawful (m.plain t.code) d l).alike n.class in rw same at h

  pub set_laws : SetLaws m s label shape
  set_laws = record {
    union = set_union (consistent_pairwise lawful certificate.consistent) certificate.label_joined;
    small = λ r set set_of.
        low_has_small set (λ k h. let u = set_of.only k h in small_has_low u.set k (formed.unknown_set u.cell u.set u.stands) u.has_it);
    met_by_shape = λ r d set qs is set_of admits. record {
      by_terms = λ i u_set u e j c ps t q k h.
          admits_term r d j c ps qs is t q k (admits k (set_of.gathers k (record { cell = i; set = u_set; stands = u; in_class = e; has_it = h })));
      code = lawful.has_leaf.0;
      code_known = lawful.has_leaf.1.is_known;
      by_code = λ free i u_set u e. absurd (termed r d qs is (ap label (sym e) ∙ certificate.consistent.label_fixed i ∙ e) free);
    };
    barred_by_shape = λ r d set qs is own set_of differ. by_shape r d set qs is own set_of differ (admits_or_not m set d);
    met_by_code = λ r c set is set_of known admits. record {
      by_terms = λ i u_set u e j d ps t q. absurd (termless r is j d ps t q);
      code = c;
      code_known = known;
      by_code = λ free i u_set u e k h. admits k (set_of.gathers k (record { cell = i; set = u_set; stands = u; in_class = e; has_it = h }));
    };
    barred_without_code = λ r set r< own set_of none_has. no_common_code r set r< (set_union (consistent_pairwise lawful certificate.consistent) certificate.label_joined r set (rw own set_of)) none_has;
  }
    where
      termless : (r : ℕ) → shape r ≡ no_term → (j d : ℕ) (ps : List ℕ) → Term s j d ps → label j ≡ r → ⊥
      termless r is j d ps t e =
          let o : TermHeld m label shape r d ps = rw e at (certificate.consistent.terms_held j d ps t) in
          impossible (cc o.shape_is)

      termed : (r d : ℕ) (qs : List ℕ) → shape r ≡ over d qs → label r ≡ r → Termless s label r → ⊥
      termed r d qs is own free =
          let t = term_behind (certificate.shape_backed r d qs is) in
          free t.cell t.code t.parts t.stands (sym (one_label lawful certificate.consistent t.joined) ∙ own)

      by_shape : (r d set : ℕ) (qs : List ℕ) → shape r ≡ over d qs → label r ≡ r → SetOfClass s label r set → (Admits m set d → ⊥) →
          Admits m set d ⊎ NotAdmitting m set d → Barred m s
      by_shape r d set qs is own set_of differ (inl admits) = absurd (differ admits)
      by_shape r d set qs is own set_of differ (inr n) = barred_by_term r d set qs own set_of n (term_behind (certificate.shape_backed r d qs is))

-- what the merge of two classes makes of their sets
module _ (s : State) (label : ℕ → ℕ) (x y : ℕ) where
  abbrev label' : ℕ → ℕ
  label' i = sent y x (label i)

  -- what is in x after the merge was in x or in y
  was_in : (i : ℕ) → label' i ≡ x → (label i ≡ x) ⊎ (label i ≡ y)
  was_in i e = go (ℕ_discrete (label i) y)
    where
      go : Dec (label i ≡ y) → (label i ≡ x) ⊎ (label i ≡ y)
      go (yes p) = inr p
      go (no n) = inl (sym (sent_miss y x (label i) n) ∙ e)

  in_still : (i : ℕ) → label i ≡ x → label' i ≡ x
  in_still i e = go (ℕ_discrete (label i) y)
    where
      go : Dec (label i ≡ y) → label' i ≡ x
      go (yes p) = sent_hit y x (label i) p
      go (no n) = sent_miss y x (label i) n ∙ e

  -- and what is in another class was in it
  other_still : (r i : ℕ) → (r ≡ x → ⊥) → label' i ≡ r → label i ≡ r
  other_still r i n e = go (ℕ_discrete (label i) y)
    where
      go : Dec (label i ≡ y) → label i ≡ r
      go (yes p) = absurd (n (sym e ∙ sent_hit y x (label i) p))
      go (no d) = sym (sent_miss y x (label i) d) ∙ e

  along : {r r' k : ℕ} {label_of : ℕ → ℕ} → (u : ClassOfUnknown s label r k) → label_of u.cell ≡ r' → ClassOfUnknown s label_of r' k
  along u e = record { cell = u.cell; set = u.set; stands = u.stands; in_class = e; has_it = u.has_it }

  pub set_merge_laws : SetMergeLaws s label x y
  set_merge_laws = record { merged = merged; kept = kept }
    where
      merged : (one other : ℕ) → SetOfClass s label x one → SetOfClass s label y other → SetOfClass s label' x (bit_or one other)
      merged one other a b = record { gathers = λ k u. gathers k u (was_in u.cell u.in_class); only = λ k h. only k (has_or one other k h) }
        where
          gathers : (k : ℕ) (u : ClassOfUnknown s label' x k) → (label u.cell ≡ x) ⊎ (label u.cell ≡ y) → T (has (bit_or one other) k)
          gathers k u (inl e) = has_or_left one other k (a.gathers k (record { cell = u.cell; set = u.set; stands = u.stands; in_class = e; has_it = u.has_it }))
          gathers k u (inr e) = has_or_right one other k (b.gathers k (record { cell = u.cell; set = u.set; stands = u.stands; in_class = e; has_it = u.has_it }))

          only : (k : ℕ) → T (has one k) ⊎ T (has other k) → ClassOfUnknown s label' x k
          only k (inl h) = let u = a.only k h in along u (in_still u.cell u.in_class)
          only k (inr h) = let u = b.only k h in along u (sent_hit y x (label u.cell) u.in_class)

      kept : (r set : ℕ) → (r ≡ x → ⊥) → (r ≡ y → ⊥) → SetOfClass s label r set → SetOfClass s label' r set
      kept r set nx ny a = record {
        gathers = λ k u. a.gathers k (record { cell = u.cell; set = u.set; stands = u.stands; in_class = other_still r u.cell nx u.in_class; has_it = u.has_it });
        only = λ k h. let u = a.only k h in along u (sent_miss y x (label u.cell) (λ e. ny (sym u.in_class ∙ e)) ∙ u.in_class);
      }
