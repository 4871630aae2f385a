-- In a finite graph a rank falls along each edge, or there is a cycle. Assumes nothing.
use Rattle.std.proofs.Common.{◌≡◌, ℕ, zero, suc, ◌<◌, ◌≤◌, ◌⊎◌, List, [], ◌∷◌, length, Some, inl, inr, arith}
use Rattle.std.proofs.Math.Decide.{ℕ_discrete}
use Rattle.std.specs.List.{slice_get}
use Rattle.theory.specs.Walks.{In, Cycle, DoneInOrder, none_done, bottom, frame, at_start, Walked}
use Rattle.theory.proofs.Members.{in_first, in_split, in_none}
use Rattle.theory.proofs.WalkEnds.{walk_ends}
use Rattle.theory.proofs.DoneNodesHaveRanks.{done_nodes_have_ranks}

module _ (edges : ℕ → List ℕ) (n most : ℕ) (low : (r k y : ℕ) → slice_get (edges r) k ≡ Some y → y < n) (few : (r : ℕ) → length (edges r) ≤ most) where
  -- a walk that is done with every node below a bound
  record DoneBelow (bound : ℕ) : Type 0 where
    done : List ℕ
    in_order : DoneInOrder edges done
    all : (r : ℕ) → r < bound → In r done

  done_below : (bound : ℕ) → bound ≤ n → DoneBelow bound ⊎ Cycle edges n
  done_below zero h = inl (record { done = []; in_order = none_done; all = λ r l. absurd (omega arith) })
  done_below (suc bound) h = go (done_below bound (omega arith))
    where
      from : (d : DoneBelow bound) → Walked edges (frame bound 0 bottom) d.done ⊎ Cycle edges n → DoneBelow (suc bound) ⊎ Cycle edges n
      from d (inr c) = inr c
      from d (inl w) = inl (record { done = w.all_done; in_order = w.in_order; all = λ r l. at r l (ℕ_discrete r bound) })
        where
          at : (r : ℕ) → r < suc bound → Dec (r ≡ bound) → In r w.all_done
          at r l (yes e) = w.stack_done r (in_first r [] e)
          at r l (no n) = w.keeps_done r (d.all r (omega arith))

      go : DoneBelow bound ⊎ Cycle edges n → DoneBelow (suc bound) ⊎ Cycle edges n
      go (inr c) = inr c
      go (inl d) = from d (walk_ends edges n most low few (frame bound 0 bottom) d.done stands (at_start (λ j y l e. absurd (omega arith))) d.in_order)
        where
          stands : (x : ℕ) → In x (bound ∷ []) → x < n
          stands x p = side (in_split x bound [] p)
            where
              side : (x ≡ bound) ⊎ In x [] → x < n
              side (inl e) = omega arith
              side (inr q) = in_none x q

  pub rank_or_cycle : ((rank : ℕ → ℕ) × ((r k y : ℕ) → slice_get (edges r) k ≡ Some y → rank y < rank r)) ⊎ Cycle edges n
  rank_or_cycle = go (done_below n (omega arith))
    where
      go : DoneBelow n ⊎ Cycle edges n → ((rank : ℕ → ℕ) × ((r k y : ℕ) → slice_get (edges r) k ≡ Some y → rank y < rank r)) ⊎ Cycle edges n
      go (inr c) = inr c
      go (inl d) = inl (done_nodes_have_ranks d.done (λ x. x) d.in_order (λ r k y e. inr (inl (d.all y (low r k y e)))))
