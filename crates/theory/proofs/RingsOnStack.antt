-- Where the walk comes round, its classes are joined, or there is a clash. Assumes nothing.
use Rattle.std.proofs.Common.{◌≡◌, ℕ, true, ◌⊎◌, List, Some, sym, refl, ◌∙◌, inl, inr}
use Rattle.std.specs.List.{slice_get}
use Rattle.theory.specs.Meaning.{Meaning, Lawful}
use Rattle.theory.specs.States.{State, Formed}
use Rattle.theory.specs.Joined.{Joined}
use Rattle.theory.specs.Certificates.{Shape}
use Rattle.theory.specs.Refusals.{Inside, inner, Clash, inside_itself}
use Rattle.theory.specs.ClassGraph.{class_edges}
use Rattle.theory.specs.Walks.{In, Route, edge, further, Stack, bottom, frame, nodes, Walking, at_start, above}
use Rattle.theory.specs.Rings.{Settled, TailEdge, RingFound, ring_start, ring_through, StrictCycleFound, strict_here, strict_below, JoinedDownTo, down_here, down_through}
use Rattle.theory.proofs.Members.{in_split, in_none}
use Rattle.theory.proofs.WalkMoves.{route_up}
use Rattle.theory.proofs.TailSteps.{TailStep, TailSteps, one_step, then_steps, tail_steps_inside, tail_ring_joined}
use Rattle.theory.proofs.ClassEdges.{decide_tail_edge, tail_edge_step, other_edge_inside, route_inside}

module _ {m : Meaning} (lawful : Lawful m) {s : State} (formed : Formed m s) {label : ℕ → ℕ} {shape : ℕ → Shape} (settled : Settled m s label shape) where
  top_edge : {y z j : ℕ} {below : Stack} → RingFound m shape y (frame z j below) → TailEdge m shape z j
  top_edge (ring_start e) = e
  top_edge (ring_through e r) = e

  -- from y up to the top
  steps_up : {done : List ℕ} {y z j : ℕ} {below : Stack} → Walking (class_edges label shape) done (frame z j below) →
      RingFound m shape y (frame z j below) → (y ≡ z) ⊎ TailSteps m s label y z
  steps_up c (ring_start e) = inl refl
  steps_up (at_start u) (ring_through e r) = elim r [ ]
  steps_up {y = y} (above {x = z} {y = z'} u e c) (ring_through f r) = go (steps_up c r)
    where
      step : TailStep m s label z' z
      step = tail_edge_step lawful formed settled (top_edge r) e

      go : (y ≡ z') ⊎ TailSteps m s label y z' → (y ≡ z) ⊎ TailSteps m s label y z
      go (inl q) = inr (rw q (one_step step))
      go (inr b) = inr (then_steps b (one_step step))

  joined_down : {done : List ℕ} {y z j : ℕ} {below : Stack} → Walking (class_edges label shape) done (frame z j below) → TailSteps m s label z y →
      RingFound m shape y (frame z j below) → JoinedDownTo m s y (frame z j below)
  joined_down c back (ring_start e) = down_here
  joined_down (at_start u) back (ring_through e r) = elim r [ ]
  joined_down {y = y} (above {x = z} {y = z'} u e c) back (ring_through f r) =
      down_through (go (steps_up (above u e c) (ring_through f r))) (joined_down c (then_steps (one_step (tail_edge_step lawful formed settled (top_edge r) e)) back) r)
    where
      go : (y ≡ z) ⊎ TailSteps m s label y z → Joined m s z y
      go (inl q) = tail_ring_joined settled.label_joined back (rw q (rw q at back))
      go (inr b) = tail_ring_joined settled.label_joined back b

  pub ring_is_joined : {done : List ℕ} {x k y : ℕ} {below : Stack} → Walking (class_edges label shape) done (frame x k below) →
      slice_get (class_edges label shape x) k ≡ Some y → RingFound m shape y (frame x k below) →
      JoinedDownTo m s y (frame x k below)
  ring_is_joined c e r = joined_down c (one_step (tail_edge_step lawful formed settled (top_edge r) e)) r

  -- an edge that leads strictly inside, on a cycle
  strict : {z t : ℕ} → Inside m s true z t → (t ≡ z) ⊎ Route (class_edges label shape) t z → Clash m s
  strict {z} {t} i (inl q) = inside_itself z (rw q at i)
  strict {z} {t} i (inr v) = go (route_inside lawful formed settled v)
    where
      go : Inside m s true t z ⊎ TailSteps m s label t z → Clash m s
      go (inl a) = inside_itself z (inner i a)
      go (inr b) = inside_itself z (inner i (tail_steps_inside settled.label_joined b))

  strict_round : {done : List ℕ} {y z j : ℕ} {below : Stack} → Walking (class_edges label shape) done (frame z j below) → (t : ℕ) →
      slice_get (class_edges label shape z) j ≡ Some t → (t ≡ y) ⊎ Route (class_edges label shape) t y →
      StrictCycleFound m shape y (frame z j below) → Clash m s
  strict_round {y = y} {z = z} {below = below} c t e v (strict_here n p) = strict (other_edge_inside lawful formed settled n e) (go v (in_split y z (nodes below) p))
    where
      go : (t ≡ y) ⊎ Route (class_edges label shape) t y → (y ≡ z) ⊎ In y (nodes below) → (t ≡ z) ⊎ Route (class_edges label shape) t z
      go (inl q) (inl r) = inl (q ∙ r)
      go (inl q) (inr r) = inr (rw q (route_up c y r))
      go (inr q) (inl r) = inr (rw r at q)
      go (inr q) (inr r) = inr (further q (route_up c y r))
  strict_round (at_start u) t e v (strict_below r) = elim r [ ]
  strict_round {y = y} {j = j} (above {x = z} {k = k} {y = z'} u e' c) t e v (strict_below r) = strict_round c z e' (inr (go v)) r
    where
      go : (t ≡ y) ⊎ Route (class_edges label shape) t y → Route (class_edges label shape) z y
      go (inl q) = let step : Route (class_edges label shape) z t = edge k e in rw q at step
      go (inr q) = further (edge k e) q

  pub strict_cycle_clashes : {done : List ℕ} {x k y : ℕ} {below : Stack} → Walking (class_edges label shape) done (frame x k below) →
      slice_get (class_edges label shape x) k ≡ Some y → StrictCycleFound m shape y (frame x k below) → Clash m s
  strict_cycle_clashes {y = y} c e r = strict_round c y e (inl refl) r

module _ (m : Meaning) (shape : ℕ → Shape) where
  pub ring_or_strict : (y : ℕ) (stack : Stack) → In y (nodes stack) → RingFound m shape y stack ⊎ StrictCycleFound m shape y stack
  ring_or_strict y bottom p = in_none y p
  ring_or_strict y (frame z j below) p = go (λ q. ring_or_strict y below q) (decide_tail_edge m shape z j) (in_split y z (nodes below) p)
    where
      under : TailEdge m shape z j → RingFound m shape y below ⊎ StrictCycleFound m shape y below →
          RingFound m shape y (frame z j below) ⊎ StrictCycleFound m shape y (frame z j below)
      under e (inl a) = inl (ring_through e a)
      under e (inr b) = inr (strict_below b)

      go : (In y (nodes below) → RingFound m shape y below ⊎ StrictCycleFound m shape y below) → Dec (TailEdge m shape z j) →
          (y ≡ z) ⊎ In y (nodes below) →
          RingFound m shape y (frame z j below) ⊎ StrictCycleFound m shape y (frame z j below)
      go rec (no n) q = inr (strict_here n p)
      go rec (yes e) (inl q) = inl (here (sym q) e)
        where
          here : {z : ℕ} → z ≡ y → TailEdge m shape z j → RingFound m shape y (frame z j below)
          here q e = rw q (ring_start (rw q at e))
      go rec (yes e) (inr q) = under e (rec q)
