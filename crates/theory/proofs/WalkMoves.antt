-- Each move of the walk keeps its invariant. Assumes nothing.
use Rattle.std.proofs.Common.{◌≡◌, ℕ, suc, ◌≤◌, ◌⊎◌, List, ◌∷◌, length, Some, sym, ap, ◌∙◌, inl, inr, arith}
use Rattle.std.proofs.Math.Decide.{ℕ_discrete}
use Rattle.std.specs.List.{slice_get}
use Rattle.theory.specs.Walks.{In, Route, edge, further, DoneInOrder, done_with, Stack, frame, nodes, DoneBefore, Walking, nowhere, at_start, above, WalkLaws}
use Rattle.theory.proofs.Lookups.{nth_below}
use Rattle.theory.proofs.Members.{in_rest, in_split, in_none}

module _ {edges : ℕ → List ℕ} where
  pub walking_grows : {done done' : List ℕ} {stack : Stack} → ((x : ℕ) → In x done → In x done') → Walking edges done stack →
      Walking edges done' stack
  walking_grows f nowhere = nowhere
  walking_grows f (at_start u) = at_start (λ j y l e. f y (u j y l e))
  walking_grows f (above u e c) = above (λ j y l e. f y (u j y l e)) e (walking_grows f c)

  done_before : {done : List ℕ} {x k : ℕ} {below : Stack} → Walking edges done (frame x k below) → DoneBefore edges done x k
  done_before (at_start u) = u
  done_before (above u e c) = u

  under : {done : List ℕ} {x k : ℕ} {below : Stack} → Walking edges done (frame x k below) → Walking edges done below
  under (at_start u) = nowhere
  under (above u e c) = c

  pub walk_pop : {done : List ℕ} {x k : ℕ} {below : Stack} → Walking edges done (frame x k below) → length (edges x) ≤ k → DoneInOrder edges done →
      DoneInOrder edges (x ∷ done) × Walking edges (x ∷ done) below
  walk_pop {done} {x} {k} c e o =
      (done_with (λ j y h. done_before c j y (let l = nth_below (edges x) j h in omega arith) h) o, walking_grows (λ y p. in_rest y x done p) (under c))

  pub walk_advance : {done : List ℕ} {x k y : ℕ} {below : Stack} → Walking edges done (frame x k below) → slice_get (edges x) k ≡ Some y → In y done →
      Walking edges done (frame x (suc k) below)
  walk_advance {done} {x} {k} {y} {below} c e p = go c
    where
      one_more : DoneBefore edges done x k → DoneBefore edges done x (suc k)
      one_more u j z l h = at (ℕ_discrete j k)
        where
          at : Dec (j ≡ k) → In z done
          at (yes q) =
              let s : Some z ≡ Some y = sym h ∙ ap (slice_get (edges x)) q ∙ e in
              let s' : z ≡ y = cc in
              rw s' p
          at (no n) = u j z (omega arith) h

      go : {below : Stack} → Walking edges done (frame x k below) → Walking edges done (frame x (suc k) below)
      go (at_start u) = at_start (one_more u)
      go (above u f d) = above (one_more u) f d

  pub walk_push : {done : List ℕ} {x k y : ℕ} {below : Stack} → Walking edges done (frame x k below) → slice_get (edges x) k ≡ Some y →
      Walking edges done (frame y 0 (frame x k below))
  walk_push c e = above (λ j z l h. absurd (omega arith)) e c

  -- from each node on the stack edges lead to the top
  pub route_up : {done : List ℕ} {x k : ℕ} {below : Stack} → Walking edges done (frame x k below) → (z : ℕ) → In z (nodes below) → Route edges z x
  route_up (at_start u) z p = in_none z p
  route_up (above {x = x} {y = y} {j = j} {below = below} u e c) z p = go (λ q. route_up c z q) (in_split z y (nodes below) p)
    where
      go : (In z (nodes below) → Route edges z y) → (z ≡ y) ⊎ In z (nodes below) → Route edges z x
      go f (inl q) = rw q (edge j e)
      go f (inr q) = further (f q) (edge j e)

  pub walk_round : {done : List ℕ} {x k y : ℕ} {below : Stack} → Walking edges done (frame x k below) → slice_get (edges x) k ≡ Some y →
      In y (nodes (frame x k below)) → Route edges y y
  walk_round {x = x} {k = k} {y = y} {below = below} c e p = go (in_split y x (nodes below) p)
    where
      go : (y ≡ x) ⊎ In y (nodes below) → Route edges y y
      go (inl q) = let h : slice_get (edges y) k ≡ Some y = ap (λ z. slice_get (edges z) k) q ∙ e in edge k h
      go (inr q) = further (route_up c y q) (edge k e)

pub walk_laws : (edges : ℕ → List ℕ) (done : List ℕ) (x k : ℕ) (below : Stack) → Walking edges done (frame x k below) → WalkLaws edges done x k below
walk_laws edges done x k below walking = record {
  pops = λ none_left in_order. walk_pop walking none_left in_order;
  advances = λ y e done_y. walk_advance walking e done_y;
  pushes = λ y e. walk_push walking e;
  comes_round = λ y e on_stack. walk_round walking e on_stack;
}
