-- A cycle among the classes is a type inside itself, or a ring, of which two classes are joined. Assumes nothing.
use Rattle.std.proofs.Common.{◌≡◌, ℕ, ◌<◌, true, ◌⊎◌, [], ◌∷◌, length, sym, refl, ◌∙◌, inl, inr}
use Rattle.theory.specs.Meaning.{Meaning, Lawful}
use Rattle.theory.specs.States.{State, Formed}
use Rattle.theory.specs.Joined.{Joined}
use Rattle.theory.specs.Certificates.{Shape}
use Rattle.theory.specs.Refusals.{Inside, Clash, inside_itself}
use Rattle.theory.specs.ClassGraph.{class_edges}
use Rattle.theory.specs.Walks.{Route}
use Rattle.theory.specs.Rings.{Settled}
use Rattle.theory.proofs.NumberedUnknowns.{place_stands}
use Rattle.theory.proofs.TailSteps.{TailSteps, one_step, FirstStep, first_step, tail_steps_label, tail_ring_joined}
use Rattle.theory.proofs.ClassEdges.{route_inside}

-- two classes that are to be merged
pub record RingPair (m : Meaning) (s : State) (label : ℕ → ℕ) : Type 0 where
  pub here : ℕ
  pub there : ℕ
  pub apart : label here ≡ label there → ⊥
  pub joined : Joined m s here there
  pub here_stands : here < length s.cells
  pub there_stands : there < length s.cells

module _ {m : Meaning} (lawful : Lawful m) {s : State} (formed : Formed m s) {label : ℕ → ℕ} {shape : ℕ → Shape} (settled : Settled m s label shape)
    (stands : (i : ℕ) → i < length s.cells → label i < length s.cells) where
  pub cycle_clashes_or_ring : {x : ℕ} → x < length s.cells → Route (class_edges label shape) x x → Clash m s ⊎ RingPair m s label
  cycle_clashes_or_ring {x} x< route = go (route_inside lawful formed settled route)
    where
      of_first : FirstStep m s label x x → RingPair m s label
      of_first p = of_others p.others
        where
          of_others : (p.next ≡ x) ⊎ TailSteps m s label p.next x → RingPair m s label
          of_others (inl e) = absurd (p.head.leaves e)
          of_others (inr b) =
              let h = p.head in
              let own = tail_steps_label settled.label_joined settled.label_fixed b in
              let own' : label p.next ≡ p.next = tail_steps_label settled.label_joined settled.label_fixed (one_step h) in
              record {
                here = x;
                there = p.next;
                apart = λ e. h.leaves (sym own' ∙ sym e ∙ own);
                joined = tail_ring_joined settled.label_joined (one_step h) b;
                here_stands = x<;
                there_stands = rw (← h.into) (stands h.tail (place_stands formed h.cell h.pair.code (h.first ∷ h.tail ∷ []) h.pair.stands 1 h.tail refl));
              }

      go : Inside m s true x x ⊎ TailSteps m s label x x → Clash m s ⊎ RingPair m s label
      go (inl a) = inl (inside_itself x a)
      go (inr b) = inr (of_first (first_step b))
