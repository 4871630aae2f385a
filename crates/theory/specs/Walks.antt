-- A depth-first walk over a finite graph: what stands while it goes on, and what it comes to. Assumes nothing.
use Rattle.std.specs.Prelude.{◌≡◌, ℕ, suc, ◌+◌, ◌-◌, ◌*◌, ◌<◌, ◌≤◌, ◌⊎◌, List, [], ◌∷◌, length, Some}
use Rattle.std.specs.List.{slice_get}

-- x stands in the list
abbrev pub In : ℕ → List ℕ → Type 0
In x xs = (k : ℕ) × (slice_get xs k ≡ Some x)

-- A graph has numbers for nodes, and for each node the list of those that its edges lead to.
-- From x along edges, at least one, to y.
pub data Route (edges : ℕ → List ℕ) : ℕ → ℕ → Type 0 where
  edge : {x y : ℕ} (k : ℕ) → slice_get (edges x) k ≡ Some y → Route edges x y
  further : {x y z : ℕ} → Route edges x y → Route edges y z → Route edges x z

-- From a node below n back to it.
abbrev pub Cycle : (ℕ → List ℕ) → ℕ → Type 0
Cycle edges n = (x : ℕ) × (x < n) × Route edges x x

-- The nodes that the walk is done with, the last first: whatever an edge of one leads to was done before it.
pub data DoneInOrder (edges : ℕ → List ℕ) : List ℕ → Type 0 where
  none_done : DoneInOrder edges []
  done_with : {x : ℕ} {done : List ℕ} → ((k y : ℕ) → slice_get (edges x) k ≡ Some y → In y done) → DoneInOrder edges done → DoneInOrder edges (x ∷ done)

-- The nodes that the walk is at, the last first, each with the number of the edge that it is at.
pub data Stack : Type 0 where
  bottom : Stack
  frame : (node edge : ℕ) (below : Stack) → Stack

abbrev pub nodes : Stack → List ℕ
nodes bottom = []
nodes (frame x k below) = x ∷ nodes below

-- The edges of x before edge k lead to nodes that are done.
abbrev pub DoneBefore : (ℕ → List ℕ) → List ℕ → ℕ → ℕ → Type 0
DoneBefore edges done x k = (j y : ℕ) → j < k → slice_get (edges x) j ≡ Some y → In y done

-- The invariant of the walk: of each node on the stack the edges before the one that it is at are done with, and that edge leads to the node
-- above it.
pub data Walking (edges : ℕ → List ℕ) (done : List ℕ) : Stack → Type 0 where
  nowhere : Walking edges done bottom
  at_start : {x k : ℕ} → DoneBefore edges done x k → Walking edges done (frame x k bottom)
  above : {x k y j : ℕ} {below : Stack} → DoneBefore edges done x k → slice_get (edges y) j ≡ Some x → Walking edges done (frame y j below) →
      Walking edges done (frame x k (frame y j below))

-- The walk has come to its end: it is done with all that it had been done with, and with all that was on the stack.
pub record Walked (edges : ℕ → List ℕ) (stack : Stack) (done : List ℕ) : Type 0 where
  pub all_done : List ℕ
  pub in_order : DoneInOrder edges all_done
  pub keeps_done : (x : ℕ) → In x done → In x all_done
  pub stack_done : (x : ℕ) → In x (nodes stack) → In x all_done

-- From wherever its invariant holds the walk comes to its end, or there is a cycle.
abbrev pub WalkEnds : Type 0
WalkEnds = (edges : ℕ → List ℕ) (n most : ℕ) → ((r k y : ℕ) → slice_get (edges r) k ≡ Some y → y < n) → ((r : ℕ) → length (edges r) ≤ most) →
    (stack : Stack) (done : List ℕ) → ((x : ℕ) → In x (nodes stack) → x < n) → Walking edges done stack → DoneInOrder edges done →
    Walked edges stack done ⊎ Cycle edges n

-- What is done in order has a rank that falls along each edge, over an older rank that falls along each edge that neither leads from a node
-- that is done nor to one.
abbrev pub DoneNodesHaveRanks : Type 0
DoneNodesHaveRanks = (edges : ℕ → List ℕ) (done : List ℕ) (old : ℕ → ℕ) → DoneInOrder edges done →
    ((r k y : ℕ) → slice_get (edges r) k ≡ Some y → In r done ⊎ (In y done ⊎ (old y < old r))) →
    (rank : ℕ → ℕ) × ((r k y : ℕ) → slice_get (edges r) k ≡ Some y → rank y < rank r)

-- Each move of the walk keeps its invariant, and where an edge leads to a node on the stack there is a cycle.
pub record WalkLaws (edges : ℕ → List ℕ) (done : List ℕ) (x k : ℕ) (below : Stack) : Type 0 where
  -- no edge is left: the node is done
  pub pops : length (edges x) ≤ k → DoneInOrder edges done → DoneInOrder edges (x ∷ done) × Walking edges (x ∷ done) below
  -- the edge leads to a node that is done: to the next edge
  pub advances : (y : ℕ) → slice_get (edges x) k ≡ Some y → In y done → Walking edges done (frame x (suc k) below)
  -- the edge leads to a node that is neither done nor on the stack: to that node
  pub pushes : (y : ℕ) → slice_get (edges x) k ≡ Some y → Walking edges done (frame y 0 (frame x k below))
  pub comes_round : (y : ℕ) → slice_get (edges x) k ≡ Some y → In y (nodes (frame x k below)) → Route edges y y

abbrev pub WalkMoves : Type 0
WalkMoves = (edges : ℕ → List ℕ) (done : List ℕ) (x k : ℕ) (below : Stack) → Walking edges done (frame x k below) → WalkLaws edges done x k below

-- How much the nodes on the stack have still to look at, where no node has more edges than `most`.
abbrev pub frames_left : ℕ → Stack → ℕ
frames_left most bottom = 0
frames_left most (frame x k below) = 1 + (most - k) + frames_left most below

-- The measure of the walk, where so many nodes are neither done nor on the stack.
abbrev pub walk_measure : ℕ → ℕ → Stack → ℕ
walk_measure most untouched stack = (most + 2) * untouched + frames_left most stack

-- It falls with each move.
pub record WalkMeasureLaws (most x k : ℕ) (below : Stack) : Type 0 where
  pub pops : (untouched : ℕ) → walk_measure most untouched below < walk_measure most untouched (frame x k below)
  pub advances : (untouched : ℕ) → k < most → walk_measure most untouched (frame x (suc k) below) < walk_measure most untouched (frame x k below)
  pub pushes : (y fewer untouched : ℕ) → fewer < untouched →
      walk_measure most fewer (frame y 0 (frame x k below)) < walk_measure most untouched (frame x k below)

abbrev pub WalkMeasureFalls : Type 0
WalkMeasureFalls = (most x k : ℕ) (below : Stack) → WalkMeasureLaws most x k below
