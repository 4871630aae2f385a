-- Where a closure starts: from the cells of a state, or from a certificate with one equation more. Assumes nothing.
use Rattle.std.proofs.Common.{◌≡◌, ℕ, zero, suc, ◌<◌, List, [], ◌∷◌, map, length, Some, None, Option, sym, refl, ap, ◌∙◌, inl}
use Rattle.std.specs.List.{slice_get}
use Rattle.theory.specs.Meaning.{Meaning}
use Rattle.theory.specs.States.{Cell, unknown, term, State, Formed, with_equation}
use Rattle.theory.specs.Joined.{Joined, equation, reflexive}
use Rattle.theory.specs.Certificates.{Shape, no_term, over, Held, same_code, looping_pair, Backed, by_term, Certificate}
use Rattle.theory.specs.SameEquations.{EquationsWithin}
use Rattle.theory.specs.Updates.{cell_shape}
use Rattle.theory.specs.Closures.{Closure, Linked, by_label, by_pending, LinkedLists, none_left, next_linked, HeldLinked, same_code_linked, looping_pair_linked, Closing}
use Rattle.theory.proofs.Impossible.{impossible}
use Rattle.theory.proofs.Lookups.{each_none, each_next}
use Rattle.theory.proofs.SameEquationsJoin.{agree_same, joined_carried, backed_carried}
use Rattle.theory.proofs.LinkedCells.{linked_lists_refl}
use Rattle.theory.proofs.ShapesMerge.{BothStand}

abbrev shape_of : Meaning → Option Cell → Shape
shape_of m None = no_term
shape_of m (Some c) = cell_shape m c

-- every cell is a class by itself, and every equation is pending
abbrev pub start : Meaning → State → Closure
start m s = record { label = λ i. i; shape = λ i. shape_of m (slice_get s.cells i); pending = s.equations }

pub start_closing : (m : Meaning) (s : State) → Formed m s → Closing m s (start m s)
start_closing m s formed = record {
  covers = record {
    label_fixed = λ i. refl;
    equations = λ a b e. by_pending e.0 e.1;
    terms_linked = λ i c ps t. record { code = m.plain c; parts = ps; shape_is = ap (shape_of m) t; held = same_code_linked refl (linked_lists_refl ps) };
  };
  justified = record { label_joined = λ i. reflexive; pending_joined = λ k a b e. equation (k, e); shape_backed = λ r d qs e. backed r d qs (slice_get s.cells r) refl e };
  in_range = record { label_stands = λ i h. h; pending_stands = λ k a b e. formed.equation_stands a b (k, e) };
}
  where
    backed : (r d : ℕ) (qs : List ℕ) (o : Option Cell) → slice_get s.cells r ≡ o → shape_of m o ≡ over d qs → Backed m s r d qs
    backed r d qs None t e = impossible (cc)
    backed r d qs (Some (unknown u)) t e = impossible (cc)
    backed r d qs (Some (term c ps)) t e =
        let q : ps ≡ qs = cc in
        by_term r c reflexive (t ∙ ap (λ xs. Some (term c xs)) q) (cc)

same_labels_linked : (label : ℕ → ℕ) (pending : List (ℕ × ℕ)) (ps qs : List ℕ) → map label ps ≡ map label qs → LinkedLists label pending ps qs
same_labels_linked label pending [] [] e = none_left
same_labels_linked label pending [] (q ∷ qs) e = impossible (cc)
same_labels_linked label pending (p ∷ ps) [] e = impossible (cc)
same_labels_linked label pending (p ∷ ps) (q ∷ qs) e = next_linked (by_label (cc)) (same_labels_linked label pending ps qs (cc))

held_linked : {m : Meaning} {label : ℕ → ℕ} (pending : List (ℕ × ℕ)) {r c d : ℕ} {ps qs : List ℕ} → label r ≡ r → Held m label r c ps d qs →
    HeldLinked m label pending r c ps d qs
held_linked {label = label} pending {ps = ps} {qs = qs} own (same_code p e) = same_code_linked p (same_labels_linked label pending ps qs e)
held_linked pending own (looping_pair h t e l p q u v) = looping_pair_linked h t e l p q (by_label u) (by_label (v ∙ sym own))

module _ {m : Meaning} {s : State} {label rank : ℕ → ℕ} {shape : ℕ → Shape} (certificate : Certificate m s label rank shape) (a b : ℕ) where
  within : EquationsWithin s (with_equation s a b)
  within x y e = inl (suc e.0, e.1)

  joined_still : {x y : ℕ} → Joined m s x y → Joined m (with_equation s a b) x y
  joined_still = joined_carried (agree_same m) (λ i x t. t) within

  pub resumed_closing : a < length s.cells → b < length s.cells →
      Closing m (with_equation s a b) (record { label = label; shape = shape; pending = (a, b) ∷ [] })
  resumed_closing a< b< = record {
    covers = record {
      label_fixed = certificate.consistent.label_fixed;
      equations = λ x y e. linked x y e.0 e.1;
      terms_linked = λ i c ps t.
          let h = certificate.consistent.terms_held i c ps t in
          record { code = h.code; parts = h.parts; shape_is = h.shape_is; held = held_linked ((a, b) ∷ []) (certificate.consistent.label_fixed i) h.held };
    };
    justified = record {
      label_joined = λ i. joined_still (certificate.label_joined i);
      pending_joined = each_next (Joined m (with_equation s a b)) a b [] (equation (0, refl)) (each_none (Joined m (with_equation s a b)));
      shape_backed = λ r d qs e. backed_carried (agree_same m) (λ i x t. t) within (certificate.shape_backed r d qs e);
    };
    in_range = record {
      label_stands = certificate.label_stands;
      pending_stands = each_next (BothStand s) a b [] (a<, b<) (each_none (BothStand s));
    };
  }
    where
      linked : (x y k : ℕ) → slice_get {X = ℕ × ℕ} ((a, b) ∷ s.equations) k ≡ Some (x, y) → Linked label ((a, b) ∷ []) x y
      linked x y zero e = by_pending 0 e
      linked x y (suc k) e = by_label (certificate.consistent.equations x y (k, e))
