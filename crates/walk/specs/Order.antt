-- The order in which a walk was done with its nodes. Assumes nothing.
use Rattle.std.specs.Prelude.{◌≡◌, ℕ, ◌<◌, ◌≤◌, List, length, Some}
use Rattle.std.specs.List.{slice_get}
use Rattle.theory.specs.Walks.{In}
use Rattle.walk.specs.Progress.{Progress, order_of}

pub record Ordered (edges : ℕ → List ℕ) (p : Progress) : Type 0 where
  -- the nodes that have a place in the order are those that are done
  pub place_is_done : (i : ℕ) → i < length p.done → In (order_of p i) p.done
  pub done_has_place : (x : ℕ) → In x p.done → (i : ℕ) × (i < length p.done) × (order_of p i ≡ x)
  -- an edge leads to a node with an earlier place
  pub edges_lead_back : (i k y : ℕ) → i < length p.done → slice_get (edges (order_of p i)) k ≡ Some y → (j : ℕ) × (j < i) × (order_of p j ≡ y)
  -- no node has two places
  pub one_place : (i j : ℕ) → i < length p.done → j < length p.done → order_of p i ≡ order_of p j → i ≡ j
  pub few_places : length p.done ≤ 2048
