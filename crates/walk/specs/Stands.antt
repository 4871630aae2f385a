-- What stands of a walk at every time, and what a move does to it. Assumes nothing.
use Rattle.std.specs.Prelude.{◌≡◌, ℕ, ◌<◌, ◌≤◌, ◌⊎◌, Bool, true, false, List, length, Some, Ok, Err, Result, slice_index_or, count_by}
use Rattle.std.specs.List.{slice_get}
use Rattle.theory.specs.Walks.{In, Route, DoneInOrder, Stack, bottom, frame, Walking, walk_measure}
use Rattle.walk.specs.declared.state.Color.{Color}
use Rattle.walk.specs.declared.state.Color.TheVariants.{Untouched, OnStack, Done}
use Rattle.walk.specs.Progress.{Progress, stack_of, on_stack}

-- A graph that a walk has room for: few nodes with few edges, and no edge leads out of it.
pub record Small (edges : ℕ → List ℕ) (n : ℕ) : Type 0 where
  pub few_nodes : n ≤ 2048
  pub few_edges : (x : ℕ) → x < n → length (edges x) ≤ 9
  pub closed : (x k y : ℕ) → x < n → slice_get (edges x) k ≡ Some y → y < n

-- Each node stands in the list once.
abbrev pub Once : List ℕ → Type 0
Once xs = (k l u : ℕ) → slice_get xs k ≡ Some u → slice_get xs l ≡ Some u → k ≡ l

-- What the color of the node x says.
abbrev pub Colored : Progress → ℕ → Color → Type 0
Colored p x Untouched = (In x p.done → ⊥) × (In x (on_stack p) → ⊥)
Colored p x OnStack = In x (on_stack p) × (In x p.done → ⊥)
Colored p x Done = In x p.done × (In x (on_stack p) → ⊥)

-- The invariant of the walk.
pub record Stands (edges : ℕ → List ℕ) (n : ℕ) (p : Progress) : Type 0 where
  pub in_order : DoneInOrder edges p.done
  pub walking : Walking edges p.done (stack_of p)
  pub painted : (x : ℕ) → Colored p x (slice_index_or p.colors x Untouched)
  pub done_once : Once p.done
  pub stack_once : Once (on_stack p)
  pub done_below : (x : ℕ) → In x p.done → x < n
  pub stack_below : (x : ℕ) → In x (on_stack p) → x < n

-- The node x is done or on the stack.
abbrev pub Touched : Progress → ℕ → Type 0
Touched p x = In x (on_stack p) ⊎ In x p.done

-- Edges lead to x from some node of the stack.
pub record Reached (edges : ℕ → List ℕ) (p : Progress) (x : ℕ) : Type 0 where
  pub from_node : ℕ
  pub stacked : In from_node (on_stack p)
  pub route : Route edges from_node x

-- The walk has gone on from p to p': whatever it was done with it still is, whatever was on the stack still is or is done, and to whatever it
-- has touched since edges lead from the stack.
pub record Onward (edges : ℕ → List ℕ) (n : ℕ) (p p' : Progress) : Type 0 where
  pub stands : Stands edges n p'
  pub keeps_done : (x : ℕ) → In x p.done → In x p'.done
  pub keeps_stack : (x : ℕ) → In x (on_stack p) → Touched p' x
  pub no_more : (x : ℕ) → Touched p' x → Touched p x ⊎ Reached edges p x

-- The walk from an empty stack has touched no node but the start and those that edges lead to from there.
abbrev pub OnlyFrom : (ℕ → List ℕ) → ℕ → Progress → Progress → Type 0
OnlyFrom edges start p p' = (x : ℕ) → Touched p' x → In x p.done ⊎ ((x ≡ start) ⊎ Route edges start x)

-- The walk has come round: the edge that its top node is at leads to y, which is on the stack.
pub record ComesRound (edges : ℕ → List ℕ) (p : Progress) (y : ℕ) : Type 0 where
  pub node : ℕ
  pub edge : ℕ
  pub below : Stack
  pub top : stack_of p ≡ frame node edge below
  pub leads : slice_get (edges node) edge ≡ Some y
  pub round : In y (on_stack p)

-- How a walk ends: nothing is on the stack, or it has come round.
abbrev pub Ended : (ℕ → List ℕ) → Progress → Result (Unit {0}) ℕ → Type 0
Ended edges p (Ok u) = stack_of p ≡ bottom
Ended edges p (Err y) = ComesRound edges p y

abbrev pub is_untouched : Color → Bool
is_untouched Untouched = true
is_untouched OnStack = false
is_untouched Done = false

-- how much is left to do: it falls with each move
abbrev pub left : Progress → ℕ
left p = walk_measure 9 (count_by is_untouched p.colors) (stack_of p)

-- What a move comes to: less is left to do, or the walk has come round.
abbrev pub Moved : (ℕ → List ℕ) → Progress → Progress → Result (Unit {0}) ℕ → Type 0
Moved edges p p' (Ok u) = left p' < left p
Moved edges p p' (Err y) = ComesRound edges p' y
