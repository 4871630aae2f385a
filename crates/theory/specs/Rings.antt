-- Rings: what the walk over the classes has found where it comes round. Assumes nothing.
use Rattle.std.specs.Prelude.{◌≡◌, ℕ, ◌⊎◌, List, [], ◌∷◌, Some, ◌≢◌}
use Rattle.std.specs.List.{slice_get}
use Rattle.theory.specs.Meaning.{Meaning, Lawful, layered_by}
use Rattle.theory.specs.States.{State, Formed}
use Rattle.theory.specs.Joined.{Joined}
use Rattle.theory.specs.Certificates.{Shape, over, Backed}
use Rattle.theory.specs.Refusals.{Clash}
use Rattle.theory.specs.ClassGraph.{class_edges}
use Rattle.theory.specs.Walks.{In, Stack, frame, nodes, Walking}

-- Nothing is pending, and every Pair whose second place is in its own class has the shape of a List.
pub record Settled (m : Meaning) (s : State) (label : ℕ → ℕ) (shape : ℕ → Shape) : Type 0 where
  pub label_fixed : (i : ℕ) → label (label i) ≡ label i
  pub label_joined : (i : ℕ) → Joined m s i (label i)
  pub shape_backed : (r d : ℕ) (qs : List ℕ) → shape r ≡ over d qs → Backed m s r d qs
  pub no_loop : (r pair list first tail : ℕ) → shape r ≡ over pair (first ∷ tail ∷ []) → m.layering ≡ layered_by pair list → label tail ≢ r

-- Edge k of the class r is the second place of a Pair.
pub record TailEdge (m : Meaning) (shape : ℕ → Shape) (r k : ℕ) : Type 0 where
  pub pair : ℕ
  pub list : ℕ
  pub first : ℕ
  pub tail : ℕ
  pub shape_is : shape r ≡ over pair (first ∷ tail ∷ [])
  pub named : m.layering ≡ layered_by pair list
  pub place : k ≡ 1

-- From the top of the stack down to y every edge is such an edge: the walk has come round a ring.
pub data RingFound (m : Meaning) (shape : ℕ → Shape) (y : ℕ) : Stack → Type 0 where
  ring_start : {k : ℕ} {below : Stack} → TailEdge m shape y k → RingFound m shape y (frame y k below)
  ring_through : {x k : ℕ} {below : Stack} → TailEdge m shape x k → RingFound m shape y below → RingFound m shape y (frame x k below)

-- From the top of the stack down to y some edge is another: the walk has come round to a type inside itself.
pub data StrictCycleFound (m : Meaning) (shape : ℕ → Shape) (y : ℕ) : Stack → Type 0 where
  strict_here : {x k : ℕ} {below : Stack} → (TailEdge m shape x k → ⊥) → In y (nodes (frame x k below)) →
      StrictCycleFound m shape y (frame x k below)
  strict_below : {x k : ℕ} {below : Stack} → StrictCycleFound m shape y below → StrictCycleFound m shape y (frame x k below)

-- From the top of the stack down to y every class is joined to y.
pub data JoinedDownTo (m : Meaning) (s : State) (y : ℕ) : Stack → Type 0 where
  down_here : {k : ℕ} {below : Stack} → JoinedDownTo m s y (frame y k below)
  down_through : {x k : ℕ} {below : Stack} → Joined m s x y → JoinedDownTo m s y below → JoinedDownTo m s y (frame x k below)

abbrev pub RingIsJoined : Type 0
RingIsJoined = (m : Meaning) (s : State) (label : ℕ → ℕ) (shape : ℕ → Shape) → Lawful m → Formed m s → Settled m s label shape →
    (done : List ℕ) (x k y : ℕ) (below : Stack) →
    Walking (class_edges label shape) done (frame x k below) → slice_get (class_edges label shape x) k ≡ Some y → RingFound m shape y (frame x k below) →
    JoinedDownTo m s y (frame x k below)

abbrev pub StrictCycleClashes : Type 0
StrictCycleClashes = (m : Meaning) (s : State) (label : ℕ → ℕ) (shape : ℕ → Shape) → Lawful m → Formed m s → Settled m s label shape →
    (done : List ℕ) (x k y : ℕ) (below : Stack) →
    Walking (class_edges label shape) done (frame x k below) → slice_get (class_edges label shape x) k ≡ Some y →
    StrictCycleFound m shape y (frame x k below) → Clash m s

-- Where y is on the stack, it is the one or the other.
abbrev pub CycleIsRingOrStrict : Type 0
CycleIsRingOrStrict = (m : Meaning) (shape : ℕ → Shape) (y : ℕ) (stack : Stack) → In y (nodes stack) →
    RingFound m shape y stack ⊎ StrictCycleFound m shape y stack
